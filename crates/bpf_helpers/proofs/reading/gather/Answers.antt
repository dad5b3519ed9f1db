use Rattle.std.proofs.Common.{◌≡◌, ◌+◌, List, [], ◌∷◌, ◌++◌, Bool, ℕ, length, sym, ap, subst, ◌∙◌, arith, length-append}
use Rattle.bpf_shared.specs.declared.events.Span.{Span}
use Rattle.bpf_shared.specs.declared.events.Size.TheVariants.{Byte}
use Rattle.bpf_shared.specs.declared.events.Event.{Event}
use Rattle.bpf_shared.specs.declared.events.Event.TheVariants.{Load}
use Rattle.bpf_shared.specs.Chain.{Chain}
use Rattle.bpf_shared.specs.Passage.{IsReadable}
use Rattle.bpf_shared.specs.Shape.{Shape}
use Rattle.bpf_shared.proofs.Chains.{chain_call}
use Rattle.bpf_helpers.specs.Reads.{loads}
use Rattle.bpf_helpers.proofs.ArrayPlaces.{readable_byte}
use Rattle.bpf_helpers.proofs.Reaching.{loads-append}
use Rattle.bpf_helpers.proofs.reading.gather.Goals as goal

pub value_load-byte-requires-clause-place : goal.value_load-byte-requires-clause-place
value_load-byte-requires-clause-place g c =
    let at = c.args.at + c.loop-k.k in
    let P : (ℕ → Span → Bool) → Type 0 = λ held. IsReadable (g.S.Shared.shapes c.args.shared.now) (held c.args.cpu) at 1 in
    let Q : Shape → Type 0 = λ h. IsReadable h (g.S.Shared.held c.loop-k.shared c.args.cpu) at 1 in
    subst Q (sym c.loop-k.invariant.shapes) (subst P (sym c.loop-k.invariant.held)
    (readable_byte (g.S.Shared.shapes c.args.shared.now) (g.S.Shared.held c.args.shared.now c.args.cpu) c.args.held.now at c.requires.held
    (c.requires.reached c.loop-k.k c.loop-k-test.true)))

pub loop-k-preserved : goal.loop-k-preserved
loop-k-preserved g c =
    let old = c.loop-k.invariant in
    let items = c.loop-k.bytes.items in
    let byte = c.value_load-byte.result in
    let at = c.args.at + c.loop-k.k in
    let events : loads c.args.at c.push.new.self.items ≡ loads c.args.at items ++ Load at Byte byte ∷ [] =
    ap (loads c.args.at) c.push.ensures.items ∙ loads-append c.args.at at items byte (let n = old.bytes in omega arith) in
    let P : List Event → Type 0 = Chain g.S.Shared.passes g.S.Shared.serves c.args.cpu c.args.shared.now c.value_load-byte.new.self in
    let all : P (loads c.args.at items ++ Load at Byte byte ∷ []) =
    chain_call g.S.Shared.passes g.S.Shared.serves c.args.cpu g.met.S.Shared.follows c.args.shared.now c.loop-k.shared
    c.value_load-byte.new.self (loads c.args.at items) (Load at Byte byte) c.requires.serves old.chain c.value_load-byte.ensures.loaded
    c.value_load-byte.ensures.same.1 in
    record {
      bytes = omega (arith, ap length c.push.ensures.items, length-append items (byte ∷ []), old.bytes);
      chain = subst P (sym events) all;
      held = c.value_load-byte.ensures.held ∙ old.held;
      running = c.value_load-byte.ensures.same.2 ∙ old.running;
      shapes = c.value_load-byte.ensures.same.0 ∙ old.shapes;
    }
