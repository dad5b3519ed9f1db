use Rattle.std.proofs.Common.{◌≡◌, ℕ, ◌+◌, ◌-◌, Bool, List, [], ◌∷◌, ◌++◌, length, take, refl, sym, ap, subst, ◌∙◌, arith}
use Rattle.std.proofs.lemmas.List.{take_all}
use Rattle.bpf_shared.specs.Access.{bytes_in}
use Rattle.bpf_shared.specs.Chain.{Chain}
use Rattle.bpf_shared.specs.Passage.{IsWritable}
use Rattle.bpf_shared.specs.Shape.{Shape}
use Rattle.bpf_shared.specs.declared.events.Event.{Event}
use Rattle.bpf_shared.specs.declared.events.Event.TheVariants.{Store}
use Rattle.bpf_shared.proofs.Chains.{chain_call, chain_nothing}
use Rattle.bpf_helpers.specs.Reads.{no_loads}
use Rattle.bpf_helpers.proofs.ArrayPlaces.{target_place}
use Rattle.bpf_helpers.proofs.Parted.{begins_all, begins_nothing, cut_even, cut_next, cut_start, own_more, part_fits}
use Rattle.bpf_helpers.proofs.copying.copy_own.Goals as goal

pub loop-done-init : goal.loop-done-init
loop-done-init g c = record {
  within = omega arith;
  cut = cut_start (length c.args.bytes.now - 0);
  events = λ from. (
    [],
    begins_nothing no_loads from c.args.to (length c.args.bytes.now),
    chain_nothing g.S.Shared.passes g.S.Shared.serves
        c.args.cpu g.met.S.Shared.nothing c.args.shared.now,
  );
  held = refl;
  running = refl;
  shapes = refl;
}

pub load-word-requires : goal.load-word-requires
load-word-requires g c =
    let fits = (part_fits c.next_part-size.result (length c.args.bytes.now - c.loop-done.done) c.next_part-size.ensures).0 in
    omega arith

pub value_store-requires-clause-serves : goal.value_store-requires-clause-serves
value_store-requires-clause-serves g c = ap (λ (f : ℕ → Bool). f c.args.cpu) ((c.loop-done.invariant.events 0).2).serves_same ∙ c.requires.serves

pub value_store-requires-clause-place : goal.value_store-requires-clause-place
value_store-requires-clause-place g c =
    let size = c.next_part-size.result in
    let done = c.loop-done.done in
    let n = length c.args.bytes.now in
    let fits = (part_fits size (n - done) c.next_part-size.ensures).0 in
    let old = c.loop-done.invariant in
    let P : Shape → Type 0 = λ h. IsWritable h (g.S.Shared.held c.loop-done.shared c.args.cpu) (c.args.to + done) (bytes_in size) in
    subst P (sym old.shapes) (target_place (g.S.Shared.shapes c.args.shared.now) (g.S.Shared.held c.loop-done.shared c.args.cpu) c.args.to n
    done size c.requires.target (omega arith) (cut_even size done (n - done) old.cut c.next_part-size.ensures))

pub loop-done-preserved : goal.loop-done-preserved
loop-done-preserved g c =
    let old = c.loop-done.invariant in
    let size = c.next_part-size.result in
    let bytes = c.args.bytes.now in
    let done = c.loop-done.done in
    let n = length bytes in
    let k = c.length_of-done.result in
    let is = c.next_part-size.ensures in
    let fits = (part_fits size (n - done) is).0 in
    let long : k ≡ bytes_in size = c.length_of-done.ensures in
    let event = Store (c.args.to + done) size c.load-word.result in
    record {
      within = omega arith;
      cut = subst (λ (x : ℕ). Rattle.bpf_helpers.proofs.Parted.IsCutAt (done + x) (n - (done + x))) (sym long)
          (cut_next size done (n - done) (n - (done + bytes_in size)) old.cut is (omega arith));
      events = λ from.
          let e = old.events from in (
            e.0 ++ event ∷ [],
            own_more from c.args.to bytes done k size c.load-word.result e.0 long old.within is c.load-word.ensures.value e.1,
            chain_call g.S.Shared.passes g.S.Shared.serves c.args.cpu g.met.S.Shared.follows c.args.shared.now c.loop-done.shared
                c.value_store.new.self e.0 event c.requires.serves e.2 c.value_store.ensures.stored c.value_store.ensures.same.1,
          );
      held = c.value_store.ensures.held ∙ old.held;
      running = c.value_store.ensures.same.2 ∙ old.running;
      shapes = c.value_store.ensures.same.0 ∙ old.shapes;
    }

pub returns-clause-copied : goal.returns-clause-copied
returns-clause-copied g c = λ from.
    let old = c.loop-done.invariant in
    let e = old.events from in
    let bytes = c.args.bytes.now in
    let all : c.loop-done.done ≡ length bytes = omega arith in
    let whole : take c.loop-done.done bytes ≡ bytes = take_all c.loop-done.done bytes (omega arith) in
    let P : List Event → Type 0 = Chain g.S.Shared.passes g.S.Shared.serves c.args.cpu c.args.shared.now c.loop-done.shared in
    let Q : List ℕ → Type 0 = λ l. Rattle.bpf_helpers.proofs.Parted.Begins no_loads from c.args.to (length bytes) l e.0 in
    subst P (begins_all no_loads from c.args.to (length bytes) bytes e.0 refl (subst Q whole e.1)) e.2
