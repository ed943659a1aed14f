-- Document 01, "Cases": the eleven bulleted cases as one table, and what each row of it states. Definitions only.
use Rattle.std.specs.Prelude.{◌≡◌, ℕ, suc, ◌*◌, true, false, List, [], ◌∷◌, map, length, replicate, Float}
use Rattle.std.specs.Prelude.{None, Some}
use Rattle.std.specs.Float.{binary32}
use Rattle.std.specs.Float.Ieee.{of_bits, round}
use Rattle.square_root.specs.Root.{root_of}
use Rattle.arc.specs.Arc.{arc_of}
use Rattle.pattern.specs.Key.{hash_of, home_of, mark_of}
use Rattle.pattern_keys.specs.Keys.{keys_of}
use Rattle.combinations.specs.Lists.{All}
use Rattle.combinations.specs.declared.Combination.{Combination}
use Rattle.combinations.specs.Combinations.{four, combination_list, combinations_of_sum}
use Rattle.pattern_catalog.specs.Answers.{filled_at, empty}
use Rattle.pattern_catalog.specs.SlotRead.{slot_read}
use Rattle.preprocess.specs.UnitVectors.{unit_of}
use Rattle.settings.specs.declared.tolerance.Tolerance.TheVariants.{Given}
use Rattle.fov_sweep.specs.Sweep.{sweep_of}
use Rattle.undivided_run.specs.Undivided.{Feed, slot_of, chain}

-- A case: its inputs, then the values that are expected of them.
pub data Case : Type 0 where
  -- Inputs: bins, key and slot count. Expected: hash, mark and home slot.
  hash : (bins : ℕ) (parts : List ℕ) (slots : ℕ) (value mark home : ℕ) → Case
  -- Inputs: home slot and slot count of a table without an empty slot. Expected: the slots that the probes read, in order.
  probes : (home slots : ℕ) (read : List ℕ) → Case
  -- Input: how many positions there are. Expected: their combinations in order.
  positions : (count : ℕ) (listed : List Combination) → Case
  -- Inputs: how many positions there are, and a sum. Expected: the combinations of that sum in order.
  positions_of_sum : (count total : ℕ) (listed : List Combination) → Case
  -- Inputs: lowest and highest key, and the image key (centre). Expected: the keys in order.
  keys : (lowest highest centre : List ℕ) (listed : List (List ℕ)) → Case
  -- Inputs: rank and first word of a table's one block, and two slots. Expected: the place of the first slot's entry; the second is empty.
  ranked : (rank word slot other : ℕ) (place : ℕ) → Case
  -- Inputs: estimate, error and step. Expected: the values in order.
  sweep : (estimate error step : Float) (values : List Float) → Case
  -- Inputs: two floats. Expected: the root of the first, and the bits of the root of the second.
  roots : (x y : Float) (root : Float) (bits : ℕ) → Case
  -- Inputs: two floats. Expected: the arc of the first, and the bits of the arc of the second.
  arcs : (x y : Float) (arc : Float) (bits : ℕ) → Case
  -- Inputs: a spot and a scale. Expected: the unit vector, and the bits of its components.
  spot : (x y scale : Float) (vector : List Float) (bits : List ℕ) → Case

-- The f32 nearest to n / d, which is n / d itself where an f32 has that value.
abbrev pub f32 : ℕ → ℕ → Float
f32 n d = round binary32 false n d

-- The key with these five parts.
abbrev pub key : ℕ → ℕ → ℕ → ℕ → ℕ → List ℕ
key a b c d e = a ∷ b ∷ c ∷ d ∷ e ∷ []

-- What a run over a table of `count` slots is fed: none of them is empty, and every key has the home slot `first`.
abbrev pub filled_table : ℕ → ℕ → Feed ℕ ℕ
filled_table first count =
    record {
      passes = 1;
      kept = λ i. 4;
      keys = λ i q. 1;
      home = λ i q k. first;
      slots = count;
      patterns = 1;
      entry = λ x. Some x;
      test = λ r x. None;
      valid = λ x. true;
    }

-- The slots that a key's reads go to in such a table, in order.
abbrev pub slots_read : ℕ → ℕ → List ℕ
slots_read first count = map (slot_of (filled_table first count)) (chain (filled_table first count) 0 (four 0 1 2 3) 0 count 0)

-- The words of a table of one block: its rank, its first occupancy word, and six more that are 0.
abbrev pub block : ℕ → ℕ → List ℕ
block rank word = rank ∷ word ∷ 0 ∷ 0 ∷ 0 ∷ 0 ∷ 0 ∷ 0 ∷ []

-- A packed section of zeros that ends with the entry at this place.
abbrev pub section : ℕ → List ℕ
section place = replicate (22 * suc place) 0

-- What a row states: the definition gives the expected values for the row's inputs.
abbrev pub Holds : Case → Type 0
Holds (hash bins parts slots value mark home) =
    (hash_of parts bins ≡ value) × (mark_of (hash_of parts bins) ≡ mark) × (home_of (hash_of parts bins) slots ≡ home)
Holds (probes home slots read) = slots_read home slots ≡ read
Holds (positions count listed) = combination_list count ≡ listed
Holds (positions_of_sum count total listed) = combinations_of_sum count total ≡ listed
Holds (keys lowest highest centre listed) = keys_of centre lowest highest ≡ listed
Holds (ranked rank word slot other place) =
    (slot_read 448 (block rank word) (section place) slot ≡ filled_at place) × (slot_read 448 (block rank word) (section place) other ≡ empty)
Holds (sweep estimate error step values) = sweep_of (length values) estimate (Given error) step ≡ values
Holds (roots x y root bits) = (root_of x ≡ root) × (root_of y ≡ of_bits binary32 bits)
Holds (arcs x y arc bits) = (arc_of x ≡ arc) × (arc_of y ≡ of_bits binary32 bits)
Holds (spot x y scale vector bits) = (unit_of x y scale ≡ vector) × (vector ≡ map (of_bits binary32) bits)

-- The eleven cases, in document 01's order, each below its sentence of document 01.
abbrev pub table : List Case
table =
    -- Bins 25, key (1,2,3,4,5): hash 2,017,551, mark 51,471, home 311 of 1,000.
    hash 25 (key 1 2 3 4 5) 1000 2017551 51471 311
    -- Home 1 of 10 slots, none empty: 1, 2, 5, 0, 7, 6, 7, 0, 5, 2.
    ∷ probes 1 10 (1 ∷ 2 ∷ 5 ∷ 0 ∷ 7 ∷ 6 ∷ 7 ∷ 0 ∷ 5 ∷ 2 ∷ [])
    -- Five positions: 0123, 0124, 0134, 0234, 1234.
    ∷ positions 5 (four 0 1 2 3 ∷ four 0 1 2 4 ∷ four 0 1 3 4 ∷ four 0 2 3 4 ∷ four 1 2 3 4 ∷ [])
    -- Six, sum 10: 0145, 0235, 1234.
    ∷ positions_of_sum 6 10 (four 0 1 4 5 ∷ four 0 2 3 5 ∷ four 1 2 3 4 ∷ [])
    -- Keys 33333 to 44444, centre 33444: 33444, 33344, 34444, 33334, 44444, 33333.
    ∷ keys (key 3 3 3 3 3) (key 4 4 4 4 4) (key 3 3 4 4 4) (key 3 3 4 4 4 ∷ key 3 3 3 4 4 ∷ key 3 4 4 4 4 ∷ key 3 3 3 3 4 ∷ key 4 4 4 4 4 ∷ key 3 3 3 3 3 ∷ [])
    -- Rank 5, first word binary 1011: slot 3 at place 7, slot 2 empty.
    ∷ ranked 5 0b1011 3 2 7
    -- Sweep 1, error 0.5, step 0.25: 1, 1.25, 0.75, 1.5, 0.5.
    ∷ sweep (f32 1 1) (f32 1 2) (f32 1 4) (f32 1 1 ∷ f32 5 4 ∷ f32 3 4 ∷ f32 3 2 ∷ f32 1 2 ∷ [])
    -- Sweep 0.25, error 0.25, step 0.25: 0.25, 0.5.
    ∷ sweep (f32 1 4) (f32 1 4) (f32 1 4) (f32 1 4 ∷ f32 1 2 ∷ [])
    -- Root of 4 is 2; root of 2 has bits 3FB504F3.
    ∷ roots (f32 4 1) (f32 2 1) (f32 2 1) 0x3FB5_04F3
    -- Arc of 0 is 0; arc of 1 has bits 3FC90FDB.
    ∷ arcs (f32 0 1) (f32 1 1) (f32 0 1) 0x3FC9_0FDB
    -- Spot (3, 0), scale 0.25: the f32 nearest 0.6, 0, nearest 0.8.
    ∷ spot (f32 3 1) (f32 0 1) (f32 1 4) (f32 6 10 ∷ f32 0 1 ∷ f32 8 10 ∷ []) (0x3F19_999A ∷ 0x0000_0000 ∷ 0x3F4C_CCCD ∷ [])
    ∷ []

-- Every row of the table holds.
abbrev pub EveryCase : Type 0
EveryCase = All Holds table
