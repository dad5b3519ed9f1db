use Rattle.std.proofs.Common.{◌≡◌, ◌∙◌, ◌++◌, ◌+◌, ◌%◌, ℕ, List, append-nil, slice_index, take, sym, ap, arith}
use Rattle.std.specs.Prelude.{Vec}
use Rattle.std.specs.declared.alloc.Global.{Global}
use Rattle.bpf_hash.proofs.Fronts.{still_starts}
use Rattle.bpf_plain.specs.Private.Changes.{changes_from}
use Rattle.bpf_plain.proofs.Changed.{here_same, here_other, one_more}
use Rattle.bpf_plain.proofs.changes.push_part.Goals as goal
use Rattle.bpf_plain.proofs.changes.push_part.Goals.{then-byte-first_byte+in_ok-push_change, else-byte-first_byte}

pub returns-in_err-push_change-clause-err : goal.returns-in_err-push_change-clause-err
returns-in_err-push_change-clause-err c =
    let before = changes_from (λ x. slice_index c.args.first.now (x % c.args.stride)) c.args.offset (take c.loop-step.step c.args.part.now) in
    still_starts c.from_residual.result c.args.out.now.items c.loop-step.out.items c.push_change.new.out.items before
    c.loop-step.invariant.out c.in_err-push_change.ensures.err

pub loop-step-preserved : goal.loop-step-preserved
loop-step-preserved c =
    let first : ℕ → ℕ = λ x. slice_index c.args.first.now (x % c.args.stride) in
    let o = c.loop-step.step in
    let byte = slice_index c.args.part.now o in
    let was : c.first_byte.result ≡ first (c.args.offset + o) = c.first_byte.ensures ∙ ap (slice_index c.args.first.now) c.loop-step.invariant.place in
    record {
      place = c.next_place-place.ensures (c.args.offset + o) c.loop-step.invariant.place
          ∙ ap (λ (n : ℕ). n % c.args.stride) (let z : c.args.offset + o + 1 ≡ c.args.offset + (o + 1) = omega arith in z);
      out = one_more first c.args.offset c.args.part.now c.args.out.now.items c.loop-step.out.items c.if-byte-first_byte.out.items o
          c.loop-step-test.true c.loop-step.invariant.out
          (elim c.if-byte-first_byte.branch [
            | then-byte-first_byte+in_ok-push_change w ↦
                ap (λ (v : Vec ℕ Global). v.items) w.out-is
                ∙ (w.in_ok-push_change.ensures.ok ∙ ap (λ (bs : List ℕ). c.loop-step.out.items ++ bs)
                (sym (here_other first (c.args.offset + o) byte (λ e. w.if-byte-first_byte.true (e ∙ sym was)))))
            | else-byte-first_byte w ↦
                ap (λ (v : Vec ℕ Global). v.items) w.out-is
                ∙ (sym (append-nil c.loop-step.out.items) ∙ ap (λ (bs : List ℕ). c.loop-step.out.items ++ bs)
                (sym (here_same first (c.args.offset + o) byte (w.if-byte-first_byte.false ∙ was))))
          ]);
    }
