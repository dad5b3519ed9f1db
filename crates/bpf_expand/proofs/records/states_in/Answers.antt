use Rattle.std.proofs.Common.{◌∙◌, ◌≡◌, ◌<◌, ◌^◌, ◌++◌, List, ℕ, ap, length, length-append, sym, arith, w32}
use Rattle.std.specs.Int.{to_le_bytes}
use Rattle.bpf_expand.specs.Parts.{record_of}
use Rattle.bpf_expand.proofs.PartLemmas.{none_left, read_more, rest_of}
use Rattle.bpf_expand.proofs.records.states_in.Goals as goal

pub returns-in_default-clause-none : goal.returns-in_default-clause-none
returns-in_default-clause-none c = λ states short all.
    let left = c.loop-turn.invariant.left states short all in
    let some : 0 < length c.loop-turn.rest.now = grind (arith, c.is_empty.ensures, c.if-is_empty.false) in
    none_left c.loop-turn.rest.now left.0 left.1 left.2 some c.in_default.ensures.none

pub loop-turn-preserved : goal.loop-turn-preserved
loop-turn-preserved c =
    let rest = c.loop-turn.rest.now in
    let after = c.in-Some.after.now in
    let state = c.in_ok-state.state.items in
    let is : rest ≡ record_of state ++ after = c.in-Some.ensures.some ∙ ap (λ (l : List ℕ). record_of l ++ after) (sym c.in_ok-state.ensures.items) in
    let short : length state < 2 ^ 32 = omega (arith, c.in-Some.ensures.short, ap length c.in_ok-state.ensures.items) in
    record {
      so_far =
          read_more (λ v. v.items) c.loop-turn.states.items c.push.new.self.items c.in_ok-state.state c.args.bytes.now rest after c.loop-turn.invariant.so_far
          is c.in_ok-push.ensures.items;
      left = λ states fit all. (let l = c.loop-turn.invariant.left states fit all in rest_of rest state after l.0 short l.1 is l.2);
      shorter = omega (
        arith,
        c.loop-turn.invariant.shorter,
        ap length is,
        length-append (record_of state) after,
        length-append (to_le_bytes w32 (length state)) state,
      );
    }
