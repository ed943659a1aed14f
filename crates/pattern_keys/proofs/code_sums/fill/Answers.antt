use Prim.Native.Nat.{ℕ, ◌*◌, ◌<◌}
use borrow.Author.Rules.{rules}
use mathlib.Core.Path.{sym, subst}
use native.Mathlib.Omega.{arith}
use Rattle.pattern.proofs.Hash.{hash_below}
use Rattle.pattern_keys.proofs.CodeSums.{small, next_1, next_2, next_4, next_8, next_16, sums_first, sums_room, sums_within}
use Rattle.pattern_keys.proofs.code_sums.fill.Goals as goal

pub overflow_mul-square : goal.overflow_mul-square
overflow_mul-square c = let p = small c.args.bins c.requires.few in record { fits = omega (arith, p.two) }

pub overflow_mul-square-2 : goal.overflow_mul-square-2
overflow_mul-square-2 c = let p = small c.args.bins c.requires.few in record { fits = omega (arith, p.four) }

pub double-requires : goal.double-requires
double-requires c =
    let B = c.args.bins in
    let lo = c.args.lo in
    let p = small B c.requires.few in
    let h = c.compute_pattern_key_hash-h in
    let u0 = sums_first c.args.sums.now lo B h.result (search rules) h.ensures (subst (λ (y : ℕ). y < 4611686018427387904) (sym h.ensures) (hash_below lo B c.requires)) in
    sums_room _ lo B 1 _ (B * B * (B * B)) u0 (omega arith) (omega (arith, p.two, p.three, p.four, c.requires.few))

pub overflow_mul-square-3 : goal.overflow_mul-square-3
overflow_mul-square-3 c = let p = small c.args.bins c.requires.few in record { fits = omega (arith, p.three) }

pub double-requires-2 : goal.double-requires-2
double-requires-2 c =
    let B = c.args.bins in
    let lo = c.args.lo in
    let p = small B c.requires.few in
    let h = c.compute_pattern_key_hash-h in
    let u0 = sums_first c.args.sums.now lo B h.result (search rules) h.ensures (subst (λ (y : ℕ). y < 4611686018427387904) (sym h.ensures) (hash_below lo B c.requires)) in
    let u1 = next_1 _ _ lo B _ u0 c.double.ensures in
    sums_room _ lo B 2 _ (B * B * B) u1 (omega arith) (omega (arith, p.two, p.three, p.four, c.requires.few))

pub double-requires-3 : goal.double-requires-3
double-requires-3 c =
    let B = c.args.bins in
    let lo = c.args.lo in
    let p = small B c.requires.few in
    let h = c.compute_pattern_key_hash-h in
    let u0 = sums_first c.args.sums.now lo B h.result (search rules) h.ensures (subst (λ (y : ℕ). y < 4611686018427387904) (sym h.ensures) (hash_below lo B c.requires)) in
    let u1 = next_1 _ _ lo B _ u0 c.double.ensures in
    let u2 = next_2 _ _ lo B _ u1 c.double-2.ensures in
    sums_room _ lo B 4 _ (B * B) u2 (omega arith) (omega (arith, p.two, p.three, p.four, c.requires.few))

pub double-requires-4 : goal.double-requires-4
double-requires-4 c =
    let B = c.args.bins in
    let lo = c.args.lo in
    let p = small B c.requires.few in
    let h = c.compute_pattern_key_hash-h in
    let u0 = sums_first c.args.sums.now lo B h.result (search rules) h.ensures (subst (λ (y : ℕ). y < 4611686018427387904) (sym h.ensures) (hash_below lo B c.requires)) in
    let u1 = next_1 _ _ lo B _ u0 c.double.ensures in
    let u2 = next_2 _ _ lo B _ u1 c.double-2.ensures in
    let u3 = next_4 _ _ lo B _ u2 c.double-3.ensures in
    sums_room _ lo B 8 _ (B) u3 (omega arith) (omega (arith, p.two, p.three, p.four, c.requires.few))

pub double-requires-5 : goal.double-requires-5
double-requires-5 c =
    let B = c.args.bins in
    let lo = c.args.lo in
    let p = small B c.requires.few in
    let h = c.compute_pattern_key_hash-h in
    let u0 = sums_first c.args.sums.now lo B h.result (search rules) h.ensures (subst (λ (y : ℕ). y < 4611686018427387904) (sym h.ensures) (hash_below lo B c.requires)) in
    let u1 = next_1 _ _ lo B _ u0 c.double.ensures in
    let u2 = next_2 _ _ lo B _ u1 c.double-2.ensures in
    let u3 = next_4 _ _ lo B _ u2 c.double-3.ensures in
    let u4 = next_8 _ _ lo B _ u3 c.double-4.ensures in
    sums_room _ lo B 16 _ (1) u4 (omega arith) (omega (arith, p.two, p.three, p.four, c.requires.few))

pub returns : goal.returns
returns c =
    let B = c.args.bins in
    let lo = c.args.lo in
    let p = small B c.requires.few in
    let h = c.compute_pattern_key_hash-h in
    let u0 = sums_first c.args.sums.now lo B h.result (search rules) h.ensures (subst (λ (y : ℕ). y < 4611686018427387904) (sym h.ensures) (hash_below lo B c.requires)) in
    let u1 = next_1 _ _ lo B _ u0 c.double.ensures in
    let u2 = next_2 _ _ lo B _ u1 c.double-2.ensures in
    let u3 = next_4 _ _ lo B _ u2 c.double-3.ensures in
    let u4 = next_8 _ _ lo B _ u3 c.double-4.ensures in
    let u5 = next_16 _ _ lo B _ u4 c.double-5.ensures in
    sums_within _ lo B 32 _ 9223372036854775808 (omega (arith, p.two, p.three, p.four, c.requires.few)) u5
