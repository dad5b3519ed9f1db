use Rattle.std.proofs.Common.{◌≡◌, ◌∙◌, ℕ, Bool, true, List, get_or, refl, sym, ap, subst}
use Rattle.std.proofs.lemmas.List.{take_all}
use Rattle.bpf_shared.specs.Access.{bytes_in}
use Rattle.bpf_shared.specs.Shape.{Shape}
use Rattle.bpf_shared.specs.declared.events.Span.{Span}
use Rattle.bpf_shared.specs.declared.events.Size.TheVariants.{Byte}
use Rattle.bpf_shared.specs.Passage.{IsWritable}
use Rattle.bpf_plain.specs.PlainStore.{has_cpu, shape_of, held_spans}
use Rattle.bpf_buffering.specs.declared.waiting.Stored.{Stored}
use Rattle.bpf_buffering.proofs.Making.{Makes, one_more}
use Rattle.bpf_buffering.proofs.waiting.make_stores.Goals as goal

pub loop-stored-init : goal.loop-stored-init
loop-stored-init c = (λ s so shows. (s, refl, so, shows), refl, refl, refl, refl)

pub value_store-requires-clause-serves : goal.value_store-requires-clause-serves
value_store-requires-clause-serves c = ap (λ (f : ℕ → Bool). f c.args.cpu) c.loop-stored.invariant.4 ∙ c.requires.serves

pub value_store-requires-clause-in_run : goal.value_store-requires-clause-in_run
value_store-requires-clause-in_run c = ap (λ (f : ℕ → Bool). f c.args.cpu) c.loop-stored.invariant.3 ∙ c.requires.runs

pub value_store-requires-clause-place : goal.value_store-requires-clause-place
value_store-requires-clause-place c =
    let d : Stored = record { at = 0; size = Byte; word = 0 } in
    let e : Stored = get_or c.args.waiting.now c.loop-stored.stored-index d in
    let shapes = c.loop-stored.invariant.1 in
    let held = ap (λ (f : ℕ → Span → Bool). f c.args.cpu) c.loop-stored.invariant.2 in
    subst (λ (h : Shape). IsWritable h (held_spans c.loop-stored.store c.args.cpu) e.at (bytes_in e.size)) (sym shapes)
    (subst (λ (f : Span → Bool). IsWritable (shape_of c.args.store.now) f e.at (bytes_in e.size)) (sym held)
    (c.requires.places c.loop-stored.stored-index d c.loop-stored-test.true))

pub loop-stored-preserved : goal.loop-stored-preserved
loop-stored-preserved c =
    let i = c.loop-stored.invariant in
    let d : Stored = record { at = 0; size = Byte; word = 0 } in
    let call = c.value_store.ensures in
    let served : has_cpu c.loop-stored.store c.args.cpu ≡ true = ap (λ (f : ℕ → Bool). f c.args.cpu) i.4 ∙ c.requires.serves in (
      one_more c.args.cpu c.args.store.now c.loop-stored.store c.value_store.new.self c.args.waiting.now c.loop-stored.stored-index d
          c.loop-stored-test.true served call.same.1 i.0 call.stored,
      call.same.0 ∙ i.1,
      call.held ∙ i.2,
      call.same.2 ∙ i.3,
      call.same.1 ∙ i.4,
    )

pub returns-clause-made : goal.returns-clause-made
returns-clause-made c = subst (λ (es : List Stored). Makes c.args.cpu c.args.store.now es c.loop-stored.store)
    (take_all c.loop-stored.stored-index c.args.waiting.now c.loop-stored-test.false) c.loop-stored.invariant.0
