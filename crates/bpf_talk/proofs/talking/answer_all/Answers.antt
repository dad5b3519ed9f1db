use Rattle.std.proofs.Common.{◌∷◌, ◌∙◌, ◌+◌, ◌^◌, ◌≤◌, ◌<◌, inl, inr, [], List, ℕ, false, true, ap, arith, subst, sym, refl}
use Rattle.std.specs.Prelude.{◌||◌}
use Rattle.bpf_talk.specs.Terminal.{Read}
use Rattle.bpf_talk.specs.Talking.{IsAt}
use Rattle.bpf_talk.specs.declared.talking.Stop.TheVariants as stop
use Rattle.bpf_talk.proofs.Texts.{err_of}
use Rattle.bpf_talk.proofs.TalkLaws.{at_first, at_heard, at_over, at_same, lost_at, stopped_at}
use Rattle.bpf_talk.proofs.talking.answer_all.Goals as goal

pub loop-init : goal.loop-init
loop-init g c =
    let here = g.D.Terminal.passes c.args.terminal.now c.args.terminal.now in
    record {
      room = search;
      at = (
        0,
        omega arith,
        subst (λ (t : List ℕ). IsAt g.S.Respond.answers here c.args.echo c.args.session.now c.args.session.now (t ∷ []) 0 false false)
            (sym c.new-held.ensures.items)
            (at_first g.S.Respond.answers c.args.echo c.args.session.now here (g.met.D.Terminal.nothing c.args.terminal.now)),
      );
      works = c.requires.writable;
      quiet = c.requires.readable;
    }

pub loop-preserved : goal.loop-preserved
loop-preserved g c =
    let passes = g.D.Terminal.passes in
    let start = c.args.terminal.now in
    let mid = c.hear.new.terminal in
    let heard = c.in_ok-count.ensures.heard in
    let n = c.in_ok-count.count in
    let some : 0 < n = grind (arith, c.if-count-eq0.false) in
    let size = c.loop.invariant.at.0 in
    let counted = c.loop.invariant.at.1 in
    let read = at_heard g.S.Respond.answers c.args.echo c.args.session.now (passes start c.loop.terminal) (passes start mid) heard.0
    c.loop.held.items c.hear.new.held.items n
    (λ calls p. g.met.D.Terminal.follows start c.loop.terminal mid calls (Read heard.0 ∷ []) p heard.1) heard.2 heard.3 (λ none. omega (arith, some, none))
    c.loop.session size false c.loop.refused c.loop.invariant.at.2 in
    let told = c.in_ok-one.ensures.answered start c.args.session.now (size + n) false c.loop.refused read in
    record {
      room = (let kept = c.hear.auto.room in let whole = c.loop.invariant.room in omega (arith, kept, whole));
      at = (
        size + n,
        omega (arith, counted, some),
        at_same g.S.Respond.answers c.args.echo c.args.session.now (passes start c.answer_held.new.terminal) c.answer_held.new.session
            (c.answer_held.new.held.items ∷ []) (c.answer_held.new.held.items ∷ []) (size + n) false
            (c.loop.refused || c.in_ok-one.one) c.either-refused.result refl (sym c.either-refused.ensures) told,
      );
      works = c.in_ok-one.ensures.told;
      quiet = c.in_ok-one.ensures.readable ∙ c.in_ok-count.ensures.unread;
    }

pub returns-in_err-count-clause-stopped : goal.returns-in_err-count-clause-stopped
returns-in_err-count-clause-stopped g c =
    let passes = g.D.Terminal.passes in
    let start = c.args.terminal.now in
    let here = c.loop.terminal in
    let mid = c.hear.new.terminal in
    err_of c.from_residual.result c.in_err-count.field-0.0 _ (lost_at g.S.Respond.answers c.args.echo c.args.session.now (passes start here)
    (passes here mid) (passes start mid) (λ calls more p q. g.met.D.Terminal.follows start here mid calls more p q)
    c.loop.session c.loop.held.items c.loop.invariant.at.0 false c.loop.refused c.in_err-count.field-0.0 c.in_err-count.ensures.lost
    c.in_err-count.ensures.why c.loop.invariant.at.2) c.from_residual.ensures.1

pub returns-in_err-last-clause-stopped : goal.returns-in_err-last-clause-stopped
returns-in_err-last-clause-stopped g c =
    let passes = g.D.Terminal.passes in
    let start = c.args.terminal.now in
    let mid = c.hear.new.terminal in
    let heard = c.in_ok-count.ensures.heard in
    let over = at_over g.S.Respond.answers c.args.echo c.args.session.now (passes start c.loop.terminal) (passes start mid) heard.0
    c.loop.held.items c.hear.new.held.items
    (let none = c.if-count-eq0.true in grind (arith, heard.3, none)) heard.2
    (λ calls p. g.met.D.Terminal.follows start c.loop.terminal mid calls (Read heard.0 ∷ []) p heard.1) c.loop.session c.loop.invariant.at.0
    false c.loop.refused c.loop.invariant.at.2 in
    err_of c.from_residual-in_err-last.result c.in_err-last.field-0.0 _
    (c.in_err-last.ensures.stopped start c.args.session.now [] c.loop.invariant.at.0 true c.loop.refused
    (at_same g.S.Respond.answers c.args.echo c.args.session.now (passes start mid) c.loop.session (c.hear.new.held.items ∷ [])
    (c.deref.result.now ∷ []) c.loop.invariant.at.0 true c.loop.refused c.loop.refused
    (ap (λ (t : List ℕ). t ∷ []) (sym c.deref.ensures.value)) refl over)) c.from_residual-in_err-last.ensures.1

pub returns-then-count-eq0-clause-answered : goal.returns-then-count-eq0-clause-answered
returns-then-count-eq0-clause-answered g c =
    let passes = g.D.Terminal.passes in
    let start = c.args.terminal.now in
    let mid = c.hear.new.terminal in
    let heard = c.in_ok-count.ensures.heard in
    let over = at_over g.S.Respond.answers c.args.echo c.args.session.now (passes start c.loop.terminal) (passes start mid) heard.0
    c.loop.held.items c.hear.new.held.items
    (let none = c.if-count-eq0.true in grind (arith, heard.3, none)) heard.2
    (λ calls p. g.met.D.Terminal.follows start c.loop.terminal mid calls (Read heard.0 ∷ []) p heard.1) c.loop.session c.loop.invariant.at.0
    false c.loop.refused c.loop.invariant.at.2 in
    let told = c.in_ok-last.ensures.answered start c.args.session.now [] c.loop.invariant.at.0 true c.loop.refused
    (at_same g.S.Respond.answers c.args.echo c.args.session.now (passes start mid) c.loop.session (c.hear.new.held.items ∷ [])
    (c.deref.result.now ∷ []) c.loop.invariant.at.0 true c.loop.refused c.loop.refused
    (ap (λ (t : List ℕ). t ∷ []) (sym c.deref.ensures.value)) refl over) in (
      c.loop.invariant.at.0,
      at_same g.S.Respond.answers c.args.echo c.args.session.now (passes start c.answer_line.new.terminal) c.answer_line.new.session [] []
          c.loop.invariant.at.0 true
          (c.loop.refused || c.in_ok-last.last) c.either.result refl (sym c.either.ensures) told,
    )

pub returns-in_err-one-clause-stopped : goal.returns-in_err-one-clause-stopped
returns-in_err-one-clause-stopped g c =
    let passes = g.D.Terminal.passes in
    let start = c.args.terminal.now in
    let mid = c.hear.new.terminal in
    let heard = c.in_ok-count.ensures.heard in
    let n = c.in_ok-count.count in
    let some : 0 < n = grind (arith, c.if-count-eq0.false) in
    let read = at_heard g.S.Respond.answers c.args.echo c.args.session.now (passes start c.loop.terminal) (passes start mid) heard.0
    c.loop.held.items c.hear.new.held.items n
    (λ calls p. g.met.D.Terminal.follows start c.loop.terminal mid calls (Read heard.0 ∷ []) p heard.1) heard.2 heard.3 (λ none. omega (arith, some, none))
    c.loop.session c.loop.invariant.at.0 false c.loop.refused c.loop.invariant.at.2 in
    err_of c.from_residual-in_err-one.result c.in_err-one.field-0.0 _
    (c.in_err-one.ensures.stopped start c.args.session.now (c.loop.invariant.at.0 + n) false c.loop.refused read)
    c.from_residual-in_err-one.ensures.1

pub returns-then-len-gt-MAX_LINE-clause-stopped : goal.returns-then-len-gt-MAX_LINE-clause-stopped
returns-then-len-gt-MAX_LINE-clause-stopped g c =
    let passes = g.D.Terminal.passes in
    let start = c.args.terminal.now in
    let mid = c.hear.new.terminal in
    let end = passes start c.answer_held.new.terminal in
    let heard = c.in_ok-count.ensures.heard in
    let n = c.in_ok-count.count in
    let size = c.loop.invariant.at.0 in
    let some : 0 < n = grind (arith, c.if-count-eq0.false) in
    let read = at_heard g.S.Respond.answers c.args.echo c.args.session.now (passes start c.loop.terminal) (passes start mid) heard.0
    c.loop.held.items c.hear.new.held.items n
    (λ calls p. g.met.D.Terminal.follows start c.loop.terminal mid calls (Read heard.0 ∷ []) p heard.1) heard.2 heard.3 (λ none. omega (arith, some, none))
    c.loop.session size false c.loop.refused c.loop.invariant.at.2 in
    let told = c.in_ok-one.ensures.answered start c.args.session.now (size + n) false c.loop.refused read in
    stopped_at g.S.Respond.answers c.args.echo c.args.session.now end end (λ calls p. p) c.answer_held.new.session
    (c.answer_held.new.held.items ∷ []) (size + n) false
    (c.loop.refused || c.in_ok-one.one) stop.TooLong refl (λ calls sized. inl (let long = c.if-len-gt-MAX_LINE.true in grind (arith, long))) told

pub returns-clause-stopped : goal.returns-clause-stopped
returns-clause-stopped g c =
    let here = g.D.Terminal.passes c.args.terminal.now c.loop.terminal in
    let many : 2 ^ 64 ≤ c.loop.counter + 1 = grind arith in
    let counted = c.loop.invariant.at.1 in
    stopped_at g.S.Respond.answers c.args.echo c.args.session.now here here (λ calls p. p) c.loop.session (c.loop.held.items ∷ []) c.loop.invariant.at.0 false
    c.loop.refused stop.TooLong refl (λ calls sized. inr (omega (arith, many, counted, sized))) c.loop.invariant.at.2
