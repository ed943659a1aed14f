use Rattle.std.proofs.Common.{◌∙◌, refl, arith, length-set, get_or-set_other, get_or-set_same, below_more}
use Rattle.pattern_keys.proofs.KeyBounds.{ranges_narrow, upper_parts, image_inside}
use Rattle.pattern_keys.proofs.KeyRange.{ratio_at, image_at, lower_is, upper_is}
use Rattle.pattern_keys.proofs.key_range.KeyRange.new.Goals as goal

pub low-requires : goal.low-requires
low-requires c =
    let i = c.loop-i.i in
    (ratio_at c.args.r i c.requires.0 (omega arith), rw c.compute_pattern_key-centre.ensures (image_at c.args.r c.args.bins i (omega arith)))

pub high-requires : goal.high-requires
high-requires c =
    let i = c.loop-i.i in
    (ratio_at c.args.r i c.requires.0 (omega arith), rw c.compute_pattern_key-centre.ensures (image_at c.args.r c.args.bins i (omega arith)))

pub loop-i-preserved : goal.loop-i-preserved
loop-i-preserved c =
    let l = c.loop-i in
    let p = l.invariant in
    record {
      lo_long = length-set l.lo l.i c.low.result ∙ p.lo_long;
      hi_long = length-set l.hi l.i c.high.result ∙ p.hi_long;
      ends =
          below_more _ _
          (λ k h. (
            get_or-set_other l.lo l.i k c.low.result 0 (λ e. omega arith) ∙ (p.ends k h).0,
            get_or-set_other l.hi l.i k c.high.result 0 (λ e. omega arith) ∙ (p.ends k h).1,
          )) (
            get_or-set_same l.lo l.i c.low.result 0 (omega (arith, p.lo_long)) ∙ c.low.ensures,
            get_or-set_same l.hi l.i c.high.result 0 (omega (arith, p.hi_long)) ∙ c.high.ensures,
          );
    }

pub invariant_of-result : goal.invariant_of-result
invariant_of-result c =
    let r = c.args.r in
    let e = c.args.e in
    let B = c.args.bins in
    let l = c.loop-i in
    let key = c.compute_pattern_key-centre.ensures in
    let lo = lower_is r e B l.lo l.invariant.lo_long (λ k h. (l.invariant.ends k (omega arith)).0) in
    let hi = upper_is r e B l.hi l.invariant.hi_long (λ k h. (l.invariant.ends k (omega arith)).1) in
    record {
      parts = rw hi (upper_parts r e B c.requires.0 c.requires.1);
      narrow = rw (lo, hi) (ranges_narrow r e B c.requires.0 c.requires.1);
      inside = rw (key, lo, hi) (image_inside r e B c.requires.0 c.requires.1);
    }

pub returns : goal.returns
returns c =
    let r = c.args.r in
    let l = c.loop-i in (
      c.compute_pattern_key-centre.ensures,
      lower_is r c.args.e c.args.bins l.lo l.invariant.lo_long (λ k h. (l.invariant.ends k (omega arith)).0),
      upper_is r c.args.e c.args.bins l.hi l.invariant.hi_long (λ k h. (l.invariant.ends k (omega arith)).1),
      refl,
    )
