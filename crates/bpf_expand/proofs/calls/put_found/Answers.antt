use Rattle.std.proofs.Common.{◌≡◌, ◌∙◌, ◌<◌, List, ℕ, Some, ap, length, slice_get, subst, sym, arith}
use Rattle.std.proofs.lemmas.Option.{slice_get-get_or}
use Rattle.bpf_expand.specs.declared.successor.Successor.{Successor}
use Rattle.bpf_expand.specs.Parts.{LeadsTo, put}
use Rattle.bpf_expand.specs.Private.Traced.{origin_of}
use Rattle.bpf_expand.proofs.PartLemmas.{put_more}
use Rattle.bpf_expand.proofs.Tracing.{put_later}
use Rattle.bpf_expand.proofs.calls.put_found.Goals as goal

pub loop-successor-preserved : goal.loop-successor-preserved
loop-successor-preserved c =
    let all = c.args.found.now in
    let n = c.loop-successor.successor-index in
    let one = c.successor-item.result in
    let before = c.loop-successor.origins.items in
    let more = c.put_one.new.origins.items in
    let less : n < length all = omega (arith, c.loop-successor-test.true, c.loop-successor.auto.successor-index-end) in
    let at : slice_get all n ≡ Some one = slice_get-get_or all n one less ∙ ap (λ (s : Successor). Some s) (sym c.successor-item.is) in
    record {
      known =
          c.in_ok-put_one.ensures.known ∙ (ap (λ (l : List (List ℕ)). put l one.bytes.items) c.loop-successor.invariant.known
          ∙ sym (put_more (λ s. s.bytes.items) c.args.known.now all n one at));
      traced = λ h read first are was.
          put_later (LeadsTo h read) first (origin_of c.args.number one) one.bytes.items before more c.loop-successor.known c.put_one.new.known
          c.in_ok-put_one.ensures.put
          (subst (λ (s : Successor). LeadsTo h read (origin_of c.args.number s) s.bytes.items) (sym c.successor-item.is) (are n one less))
          (c.loop-successor.invariant.traced h read first are was);
    }
