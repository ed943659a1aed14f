use Prim.Native.Nat.{ℕ}
use mathlib.Core.Path.{◌≡◌, ap₂, ◌∙◌}
use Rattle.pattern_keys.specs.Keys.{keys_of}
use Rattle.pattern_keys.proofs.CodeKeys.{keys_of_codes}
use Rattle.pattern_keys.specs.CodeOrder.{codes_around}
use Rattle.pattern_keys.proofs.CodeOrder.{order_rises}
use Rattle.pattern_keys.proofs.KeysByCode.{keys_by_codes}
use Rattle.pattern_keys.proofs.CodeList.{hashed}
use Rattle.pattern_keys.proofs.two_values.two_values.Goals as goal

pub returns : goal.returns
returns c =
    let lo = c.args.lo in
    let B = c.args.bins in
    let code = c.code_of-centre in
    let valid = c.codes_in-valid in
    let same : keys_of_codes lo valid.result (codes_around code.result) ≡ keys_of c.args.c lo c.args.hi
    = ap₂ (λ (v x : ℕ). keys_of_codes lo v (codes_around x)) valid.ensures code.ensures.0 ∙ keys_by_codes c.args.c lo c.args.hi B c.requires in
    let h = hashed lo B _ valid.result code.result 9223372036854775808 c.fill.ensures _ _ _ (codes_around code.result) (order_rises code.result code.ensures.1) c.listed.ensures in
    rw same at h
