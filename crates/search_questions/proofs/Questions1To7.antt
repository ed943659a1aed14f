-- Questions 1 to 7, test by test. Assumes nothing.
use mathlib.Core.Path.{◌≡◌, refl}
use Prim.Native.Nat.{ℕ}
use native.Mathlib.Omega.{arith}
use mathlib.Core.Bool.{Bool, true, false}
use mathlib.Core.List.{List}
use Rattle.std.specs.Prelude.{Option, None, Some}
use lib.Ieee.{Float}
use Rattle.preprocess.specs.Questions.{centroids_fit, coordinates_fit}
use Rattle.preprocess.specs.BrightnessList.{order_fits}
use Rattle.settings.specs.Passes.{passes_fit}
use Rattle.pattern_entry.specs.FirstNo.{ask}
use Rattle.pattern_catalog.specs.Blocks.{table_fits}
use Rattle.pattern_entry.specs.Stars.{stars_fit}
use Rattle.search_feed.specs.Data.{Frame, frame_of, settings_ok}
use Rattle.search_feed.specs.Claims.{FrameFits}
use Rattle.search_feed.specs.declared.SearchConfig.{SearchConfig}
use Rattle.search_questions.specs.Questions.{first_seven}

-- ---- Where no question is answered no, each one is answered yes.
passed : (b : Bool) (n : ℕ) (o : Option ℕ) → ask b (Some n) o ≡ None → (b ≡ true) × (o ≡ None)
passed true n o h = (refl, h)
passed false n o h = absurd (let z : ◌≡◌ {A = ℕ} 0 1 = cc in omega arith)

module _ (F : Frame) (slots : ℕ) (words : List ℕ) (stars : List Float) where
  abbrev from_7 : Option ℕ
  from_7 = ask (stars_fit stars) (Some 7) None

  abbrev from_6 : Option ℕ
  from_6 = ask (table_fits slots words) (Some 6) from_7

  abbrev from_5 : Option ℕ
  from_5 = ask (passes_fit F.passes) (Some 5) from_6

  abbrev from_4 : Option ℕ
  from_4 = ask (settings_ok F.config) (Some 4) from_5

  abbrev from_3 : Option ℕ
  from_3 = ask (order_fits F.order F.centroids) (Some 3) from_4

  abbrev from_2 : Option ℕ
  from_2 = ask (coordinates_fit F.centroids) (Some 2) from_3

  seven_passed : first_seven F slots words stars ≡ None → FrameFits F × (table_fits slots words ≡ true) × (stars_fit stars ≡ true)
  unfolding first_seven
  seven_passed h =
      let p1 = passed (centroids_fit F.centroids) 1 from_2 h in
      let p2 = passed (coordinates_fit F.centroids) 2 from_3 p1.1 in
      let p3 = passed (order_fits F.order F.centroids) 3 from_4 p2.1 in
      let p4 = passed (settings_ok F.config) 4 from_5 p3.1 in
      let p5 = passed (passes_fit F.passes) 5 from_6 p4.1 in
      let p6 = passed (table_fits slots words) 6 from_7 p5.1 in
      let p7 = passed (stars_fit stars) 7 None p6.1 in
      (record { one = p1.0; two = p2.0; three = p3.0; four = p4.0; five = p5.0 }, p6.0, p7.0)

  pub seven_asked : first_seven F slots words stars ≡ None → FrameFits F
  seven_asked h = (seven_passed h).0

  pub seven_table : first_seven F slots words stars ≡ None → table_fits slots words ≡ true
  seven_table h = (seven_passed h).1

  pub seven_stars : first_seven F slots words stars ≡ None → stars_fit stars ≡ true
  seven_stars h = (seven_passed h).2

-- ---- The first question answered no, by the tests that the code makes.
module _ (cs : List Float) (os : List ℕ) (cf : SearchConfig) (ps : List Float) (slots : ℕ) (words : List ℕ) (stars : List Float) where
  abbrev first : Option ℕ
  first = first_seven (frame_of cs os cf ps) slots words stars

  pub no_1 : centroids_fit cs ≡ false → Some 1 ≡ first
  unfolding first_seven
  no_1 h = rw h

  module _ (h1 : centroids_fit cs ≡ true) where
    pub no_2 : coordinates_fit cs ≡ false → Some 2 ≡ first
    unfolding first_seven
    no_2 h = rw (h1, h)

    module _ (h2 : coordinates_fit cs ≡ true) where
      pub no_3 : order_fits os cs ≡ false → Some 3 ≡ first
      unfolding first_seven
      no_3 h = rw (h1, h2, h)

      module _ (h3 : order_fits os cs ≡ true) where
        pub no_4 : settings_ok cf ≡ false → Some 4 ≡ first
        unfolding first_seven
        no_4 h = rw (h1, h2, h3, h)

        module _ (h4 : settings_ok cf ≡ true) where
          pub no_5 : passes_fit ps ≡ false → Some 5 ≡ first
          unfolding first_seven
          no_5 h = rw (h1, h2, h3, h4, h)

          module _ (h5 : passes_fit ps ≡ true) where
            pub no_6 : table_fits slots words ≡ false → Some 6 ≡ first
            unfolding first_seven
            no_6 h = rw (h1, h2, h3, h4, h5, h)

            module _ (h6 : table_fits slots words ≡ true) where
              pub no_7 : stars_fit stars ≡ false → Some 7 ≡ first
              unfolding first_seven
              no_7 h = rw (h1, h2, h3, h4, h5, h6, h)

              pub all_clear : stars_fit stars ≡ true → None ≡ first
              unfolding first_seven
              all_clear h = rw (h1, h2, h3, h4, h5, h6, h)
