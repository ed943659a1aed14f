-- The order of the 32 codes around each code: by the number of parts that differ, then by code. Definitions only. That the tables below give
-- just this order is proved in proofs/CodeOrder.antt by computing.
use Rattle.std.specs.Prelude.{ℕ, zero, suc, ◌-◌, ◌/◌, ◌%◌, List, [], ◌∷◌, ◌++◌, get_or}

-- The first n codes that are packed in a word, five bits each, the first lowest.
unfoldable pub unpack : ℕ → ℕ → List ℕ
unpack w zero = []
unpack w (suc n) = w % 32 ∷ unpack (w / 32) n

-- For each code, the five codes that differ from it in one part, packed in a word.
unfoldable pub ones : List ℕ
ones =
    17043521 ∷ 18125920 ∷ 19208288 ∷ 20290625 ∷ 21371040 ∷ 22453377 ∷ 23534722 ∷ 24615075 ∷ 25569568 ∷ 26651905 ∷ 27733250 ∷ 28813603 ∷ 29832452 ∷ 30912805 ∷ 31961414 ∷ 32978279 ∷ 25840160 ∷ 26922497 ∷ 28003842 ∷ 29084195 ∷ 30103044 ∷ 31183397 ∷ 32232006 ∷ 33248871 ∷ 30238216 ∷ 31318569 ∷ 32367178 ∷ 33384043 ∷ 32432780 ∷ 33449645 ∷ 33450702 ∷ 32435951 ∷ []

-- For each code, the ten codes that differ from it in two parts, packed in a word.
unfoldable pub twos : List ℕ
twos =
    867052305029283 ∷ 903369509313666 ∷ 939653426584705 ∷ 975904056842400 ∷ 1010090892336193 ∷ 1046341522593888 ∷ 1081526968456288 ∷ 1115647229923393 ∷ 1014626377896001 ∷ 1050877008090208 ∷ 1086062453889120 ∷ 1120182715292737 ∷ 1088263622531232 ∷ 1122383883934849 ∷ 1122419283860610 ∷ 1088369822308515 ∷ 1014633061421121 ∷ 1050883624572000 ∷ 1086067995646048 ∷ 1120186174643265 ∷ 1088266951858336 ∷ 1122385130855553 ∷ 1122418416884866 ∷ 1088366809946275 ∷ 1088366809852192 ∷ 1122418416856321 ∷ 1122385130892546 ∷ 1088266951960867 ∷ 1120186174747908 ∷ 1086067995816229 ∷ 1050883624776006 ∷ 1014633061627239 ∷ []

-- The codes around c: c itself, those that differ from it in one part and in two, then those that differ from it in three, in four and in
-- all five, which differ from the opposite code, 31 - c, in two parts, in one and in none.
unfoldable pub codes_around : ℕ → List ℕ
codes_around c =
    unpack c 1 ++ (unpack (get_or ones c 0) 5 ++ (unpack (get_or twos c 0) 10 ++ (unpack (get_or twos (31 - c) 0) 10 ++ (unpack (get_or ones (31 - c) 0) 5 ++ unpack (31 - c) 1))))
