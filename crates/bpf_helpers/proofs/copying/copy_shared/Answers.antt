use Rattle.std.proofs.Common.{◌≡◌, ℕ, ◌+◌, ◌-◌, Bool, List, [], ◌∷◌, ◌++◌, length, refl, sym, ap, subst, ◌∙◌, arith, length-append}
use Rattle.bpf_base.specs.Bytes.{little_endian, part}
use Rattle.bpf_shared.specs.Access.{bytes_in}
use Rattle.bpf_shared.specs.Chain.{Chain}
use Rattle.bpf_shared.specs.Passage.{IsWritable}
use Rattle.bpf_shared.specs.Shape.{Shape}
use Rattle.bpf_shared.specs.declared.events.Event.{Event}
use Rattle.bpf_shared.specs.declared.events.Event.TheVariants.{Store}
use Rattle.bpf_shared.specs.declared.events.Span.{Span}
use Rattle.bpf_shared.proofs.Chains.{chain_call, chain_join, chain_nothing}
use Rattle.bpf_helpers.specs.Held.{AreHeld}
use Rattle.bpf_helpers.specs.Reads.{AreReached, loads}
use Rattle.bpf_helpers.proofs.ArrayPlaces.{target_place}
use Rattle.bpf_helpers.proofs.Parted.{IsCutAt, begins_all, begins_nothing, cut_even, cut_next, cut_start, part_fits, reached_part, shared_more}
use Rattle.bpf_helpers.proofs.copying.copy_shared.Goals as goal

pub loop-done-init : goal.loop-done-init
loop-done-init g c = record {
  within = omega arith;
  cut = cut_start (c.args.count - 0);
  copied = (
    [],
    [],
    refl,
    begins_nothing loads c.args.from c.args.to c.args.count,
    chain_nothing g.S.Shared.passes g.S.Shared.serves
        c.args.cpu g.met.S.Shared.nothing c.args.shared.now,
  );
  held = refl;
  running = refl;
  shapes = refl;
}

pub gather-part-requires-clause-held : goal.gather-part-requires-clause-held
gather-part-requires-clause-held g c =
    let P : (ℕ → Span → Bool) → Type 0 = λ held. AreHeld (held c.args.cpu) c.args.held.now in
    subst P (sym c.loop-done.invariant.held) c.requires.held

pub gather-part-requires-clause-reached : goal.gather-part-requires-clause-reached
gather-part-requires-clause-reached g c =
    let size = c.next_part-size.result in
    let done = c.loop-done.done in
    let fits = (part_fits size (c.args.count - done) c.next_part-size.ensures).0 in
    let P : Shape → Type 0 = λ h. AreReached h c.args.held.now (c.args.from + done) c.length_of.result in
    subst P (sym c.loop-done.invariant.shapes) (reached_part (g.S.Shared.shapes c.args.shared.now) c.args.held.now c.args.from c.args.count
    done c.length_of.result c.requires.reached (omega arith))

pub load-word-requires : goal.load-word-requires
load-word-requires g c = omega (arith, ap length c.as_slice.ensures.value)

pub value_store-requires-clause-place : goal.value_store-requires-clause-place
value_store-requires-clause-place g c =
    let size = c.next_part-size.result in
    let done = c.loop-done.done in
    let n = c.args.count in
    let fits = (part_fits size (n - done) c.next_part-size.ensures).0 in
    let old = c.loop-done.invariant in
    let P : Shape → Type 0 = λ h. IsWritable h (g.S.Shared.held c.gather-part.new.shared c.args.cpu) (c.args.to + done) (bytes_in size) in
    subst P (sym (c.gather-part.ensures.shapes ∙ old.shapes)) (target_place (g.S.Shared.shapes c.args.shared.now)
    (g.S.Shared.held c.gather-part.new.shared c.args.cpu) c.args.to n done size c.requires.target (omega arith)
    (cut_even size done (n - done) old.cut c.next_part-size.ensures))

pub loop-done-preserved : goal.loop-done-preserved
loop-done-preserved g c =
    let old = c.loop-done.invariant in
    let size = c.next_part-size.result in
    let done = c.loop-done.done in
    let n = c.args.count in
    let k = c.length_of-done.result in
    let is = c.next_part-size.ensures in
    let fits = (part_fits size (n - done) is).0 in
    let long : k ≡ bytes_in size = c.length_of-done.ensures in
    let items = c.gather-part.result.items in
    let many : length items ≡ bytes_in size = c.gather-part.ensures.bytes ∙ c.length_of.ensures in
    let event = Store (c.args.to + done) size c.load-word.result in
    let e = old.copied in
    let passes = g.S.Shared.passes in
    let serves = g.S.Shared.serves in
    let cpu = c.args.cpu in
    let kept = e.4.serves_same in
    let served = ap (λ (f : ℕ → Bool). f cpu) kept ∙ c.requires.serves in
    let turn = chain_call passes serves cpu g.met.S.Shared.follows c.loop-done.shared c.gather-part.new.shared c.value_store.new.self
    (loads (c.args.from + done) items) event served c.gather-part.ensures.chain c.value_store.ensures.stored c.value_store.ensures.same.1 in
    record {
      within = omega arith;
      cut = subst (λ (x : ℕ). IsCutAt (done + x) (n - (done + x))) (sym long)
          (cut_next size done (n - done) (n - (done + bytes_in size)) old.cut is (omega arith));
      copied = (
        e.0 ++ items,
        e.1 ++ (loads (c.args.from + done) items ++ event ∷ []),
        length-append e.0 items ∙ (ap (λ (x : ℕ). x + length items) e.2 ∙ ap (λ (x : ℕ). done + x) (many ∙ sym long)),
        shared_more c.args.from c.args.to n done size c.load-word.result e.0 items e.1 e.2 is many
            (c.load-word.ensures.value ∙ ap (λ (l : List ℕ). little_endian (part l 0 (bytes_in size))) c.as_slice.ensures.value) e.3,
        chain_join passes serves cpu g.met.S.Shared.follows c.args.shared.now c.loop-done.shared c.value_store.new.self e.1
            (loads (c.args.from + done) items ++ event ∷ []) e.4 turn,
      );
      held = c.value_store.ensures.held ∙ (c.gather-part.ensures.held ∙ old.held);
      running = c.value_store.ensures.same.2 ∙ (c.gather-part.ensures.running ∙ old.running);
      shapes = c.value_store.ensures.same.0 ∙ (c.gather-part.ensures.shapes ∙ old.shapes);
    }

pub returns-clause-copied : goal.returns-clause-copied
returns-clause-copied g c =
    let old = c.loop-done.invariant in
    let e = old.copied in
    let all : length e.0 ≡ c.args.count = (let size = e.2 in omega arith) in
    let P : List Event → Type 0 = Chain g.S.Shared.passes g.S.Shared.serves c.args.cpu c.args.shared.now c.loop-done.shared in
    (e.0, all, subst P (begins_all loads c.args.from c.args.to c.args.count e.0 e.1 all e.3) e.4)
