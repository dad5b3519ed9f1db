use Rattle.std.proofs.Common.{◌≡◌, ◌∙◌, ◌++◌, ◌+◌, ◌%◌, ◌<◌, ℕ, true, List, take, append-nil, arith, length, refl, slice_index, sym, ap, take-append-drop}
use Rattle.std.specs.Prelude.{Vec}
use Rattle.std.specs.declared.alloc.Global.{Global}
use Rattle.std.proofs.Transfers.{starts_with_of_append, starts_with_trans}
use Rattle.bpf_plain.specs.Private.Changes.{changes_from}
use Rattle.bpf_plain.proofs.Changed.{none_changed, part_more, place_more}
use Rattle.bpf_plain.proofs.changes.push_changes.Goals as goal
use Rattle.bpf_plain.proofs.changes.push_changes.Goals.{then-not-is_as_first+in_ok-push_part, else-not-is_as_first}

pub loop-rest-preserved : goal.loop-rest-preserved
loop-rest-preserved c =
    let first : ℕ → ℕ = λ x. slice_index c.args.first.now (x % c.args.stride) in
    let o = c.loop-rest.offset in
    let rest = c.loop-rest.rest.now in
    let part = c.split_at.result.0.now in
    let more = c.split_at.result.1.now in
    let out = c.loop-rest.out.items in
    let new = c.if-not-is_as_first.out.items in
    let old = c.args.out.now.items in
    let size = c.part_size.ensures.left in
    let front = c.split_at.ensures.front_len in
    let back = c.split_at.ensures.back_len in
    let cut : rest ≡ part ++ more =
    sym (ap (λ (bs : List ℕ). bs ++ more) c.split_at.ensures.front ∙ (ap (λ (bs : List ℕ). take c.part_size.result rest ++ bs) c.split_at.ensures.back
    ∙ take-append-drop c.part_size.result rest)) in
    let before = c.loop-rest.invariant.out in
    let inside = c.part_size.ensures.copy in
    let same : c.is_as_first.result ≡ true → (k : ℕ) → k < length part → slice_index part k ≡ first (o + k) =
    λ is k l. c.is_as_first.ensures is k l ∙ ap (slice_index c.args.first.now) (sym (place_more o k c.args.stride c.requires.stride (omega arith))) in
    let grown : new ≡ out ++ changes_from first o part =
    elim c.if-not-is_as_first.branch [
      | then-not-is_as_first+in_ok-push_part w ↦ ap (λ (v : Vec ℕ Global). v.items) w.out-is ∙ w.in_ok-push_part.ensures.ok
      | else-not-is_as_first w ↦
          ap (λ (v : Vec ℕ Global). v.items) w.out-is
          ∙ (sym (append-nil out) ∙ ap (λ (bs : List ℕ). out ++ bs) (sym (none_changed first o part (same w.if-not-is_as_first.false))))
    ] in
    record {
      size = (let s = c.loop-rest.invariant.size in omega arith);
      begins = starts_with_trans new out old (starts_with_of_append new out (changes_from first o part) grown) c.loop-rest.invariant.begins;
      out = part_more first o (o + length part) rest part more out new old _ cut refl grown before;
    }
