use Rattle.std.proofs.Common.{◌≡◌, ℕ, Bool, ap, subst, ◌∙◌, true, arith}
use Rattle.std.specs.Prelude.{slice_get}
use Rattle.std.specs.FinMap.{keys}
use Rattle.bpf_shared.specs.declared.events.Event.TheVariants.{Keys}
use Rattle.bpf_shared.specs.Shape.{Shape}
use Rattle.bpf_shared.specs.Store.{Plain}
use Rattle.bpf_plain.specs.PlainStore.{has_cpu, shapes_of, StandsFor}
use Rattle.bpf_machine.proofs.OwnEvents.{call_leads}
use Rattle.bpf_machine.proofs.KeyListLaws.{list_shape, one_more_keys, same_maps, all_keys}
use Rattle.bpf_machine.proofs.machine.listing.list_all.Goals as goal

pub keys-requires-clause-serves : goal.keys-requires-clause-serves
keys-requires-clause-serves c = ap (λ (f : ℕ → Bool). f c.args.cpu) c.loop-map.invariant.serves ∙ c.requires.serves

pub keys-requires-clause-list : goal.keys-requires-clause-list
keys-requires-clause-list c =
    ap (λ (h : Shape). slice_get h.maps c.loop-map.map) c.loop-map.invariant.shape
    ∙ list_shape (shapes_of c.args.store.now) c.loop-map.lists c.loop-map.map c.index-lists-map.result c.loop-map.invariant.lists.shapes_are (omega arith)

pub loop-map-preserved : goal.loop-map-preserved
loop-map-preserved c =
    let before = c.loop-map.invariant in
    let lists = c.loop-map.lists in
    let m = c.loop-map.map in
    let new = c.keys.new.list in
    let served : has_cpu c.loop-map.store c.args.cpu ≡ true = ap (λ (f : ℕ → Bool). f c.args.cpu) before.serves ∙ c.requires.serves in
    record {
      listed = λ s sound stands.
          let far = before.listed s sound stands in
          let one = call_leads c.loop-map.store c.keys.new.self c.args.cpu (Keys m new.keys) served c.keys.ensures.listed
          c.keys.ensures.same.1 s sound far.0 in (
            subst (λ (p : Plain). StandsFor c.keys.new.self p) one.1.0.3 one.3,
            one_more_keys lists m new (λ k. keys (s.maps k)) (omega arith) far.1 one.1.0.2,
          );
      lists = same_maps (shapes_of c.args.store.now) lists m new c.index-lists-map.result before.lists c.keys.ensures.list;
      shape = c.keys.ensures.same.0 ∙ before.shape;
      serves = c.keys.ensures.same.1 ∙ before.serves;
      runs = c.keys.ensures.same.2 ∙ before.runs;
      held = c.keys.ensures.held ∙ before.held;
    }

pub returns-clause-keys : goal.returns-clause-keys
returns-clause-keys c = λ s sound stands.
    let far = c.loop-map.invariant.listed s sound stands in (
      far.0,
      all_keys (shapes_of c.args.store.now) c.loop-map.lists s c.loop-map.map c.loop-map.invariant.lists.shapes_are
          (ap (λ (h : Shape). h.maps) stands.shape) (omega arith) far.1,
    )
