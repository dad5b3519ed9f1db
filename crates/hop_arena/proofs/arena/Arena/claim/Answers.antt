use Rattle.std.proofs.Common.{ℕ, ◌+◌, ◌++◌, sym, subst, ◌∙◌}
use Rattle.hop_arena.specs.declared.arena.Arena.{Arena}
use Rattle.hop_arena.specs.Claiming.{Claims, TakesNothing, AreSeenTaken}
use Rattle.hop_arena.proofs.Claiming.{looks_then, holds_then, words_on, words_kept, looks_runs}
use Rattle.hop_words.specs.Sights.{LeavesLocks}
use Rattle.hop_words.proofs.Sighted.{each-append, looks_leave}
use Rattle.hop_arena.proofs.arena.Arena.claim.Goals as goal

pub returns-in-Some-clause-claimed : goal.returns-in-Some-clause-claimed
returns-in-Some-clause-claimed c =
    let i = c.after.invariant in
    let t = subst (λ (s : Arena). Claims c.args.table.now.about c.after.lane.known s.map c.in-Some.element c.claim_in.new.lane.known) i.1
    c.in-Some.ensures.claimed in (
      t.0 ++ i.2.0,
      holds_then c.args.lane.now.known c.after.lane.known c.claim_in.new.lane.known i.2.0 t.0 c.args.self.now.map
          c.in-Some.element.number i.2.1 t.1,
      t.2,
      t.3,
      each-append LeavesLocks t.0 i.2.0 t.4 (looks_leave i.2.0 i.2.1.1),
    )

pub after-preserved : goal.after-preserved
after-preserved c =
    let i = c.after.invariant in
    let n = c.requires.arena.0 in
    let t = subst (λ (s : Arena). TakesNothing c.args.table.now.about c.after.lane.known s.map c.after.word (c.after.word + 1)
    c.claim_in.new.lane.known) i.1 c.in_default.ensures.claimed in
    let now = subst (λ (k : ℕ). AreSeenTaken t.0 c.args.self.now.map k c.after.word (c.after.word + 1)) (sym n) t.2 in (
      c.claim_in.ensures.table ∙ i.0,
      i.1,
      (
        t.0 ++ i.2.0,
        looks_then c.args.lane.now.known c.after.lane.known c.claim_in.new.lane.known i.2.0 t.0 i.2.1 t.1,
        words_on t.0 i.2.0 c.args.self.now.map c.args.self.now.elements c.args.self.now.start c.after.word i.2.2 now,
      ),
    )

pub returns-in-Some-claim_in-clause-claimed : goal.returns-in-Some-claim_in-clause-claimed
returns-in-Some-claim_in-clause-claimed c =
    let i = c.before-2.invariant in
    let t = subst (λ (s : Arena). Claims c.args.table.now.about c.before-2.lane.known s.map c.in-Some-claim_in.element
    c.claim_in-in-before-2.new.lane.known) i.1 c.in-Some-claim_in.ensures.claimed in (
      t.0 ++ i.2.0,
      holds_then c.args.lane.now.known c.before-2.lane.known c.claim_in-in-before-2.new.lane.known i.2.0 t.0
          c.args.self.now.map c.in-Some-claim_in.element.number i.2.1 t.1,
      t.2,
      t.3,
      each-append LeavesLocks t.0 i.2.0 t.4 (looks_leave i.2.0 i.2.1.1),
    )

pub before-2-preserved : goal.before-2-preserved
before-2-preserved c =
    let i = c.before-2.invariant in
    let n = c.requires.arena.0 in
    let t = subst (λ (s : Arena). TakesNothing c.args.table.now.about c.before-2.lane.known s.map c.before-2.word (c.before-2.word + 1)
    c.claim_in-in-before-2.new.lane.known) i.1 c.in_default-claim_in.ensures.claimed in
    let now = subst (λ (k : ℕ). AreSeenTaken t.0 c.args.self.now.map k c.before-2.word (c.before-2.word + 1)) (sym n) t.2 in (
      c.claim_in-in-before-2.ensures.table ∙ i.0,
      i.1,
      (
        t.0 ++ i.2.0,
        looks_then c.args.lane.now.known c.before-2.lane.known c.claim_in-in-before-2.new.lane.known i.2.0 t.0 i.2.1 t.1,
        words_kept t.0 i.2.0 c.args.self.now.map c.args.self.now.elements c.args.self.now.start _ i.2.2,
        words_on t.0 i.2.0 c.args.self.now.map c.args.self.now.elements 0 c.before-2.word i.2.3 now,
      ),
    )

pub claim_in-requires-clause-runs : goal.claim_in-requires-clause-runs
claim_in-requires-clause-runs c = let i = c.after.invariant in looks_runs c.args.lane.now.known c.after.lane.known i.2.0 i.2.1 c.requires.runs

pub claim_in-requires-in-before-2-clause-runs : goal.claim_in-requires-in-before-2-clause-runs
claim_in-requires-in-before-2-clause-runs c = let i = c.before-2.invariant in looks_runs c.args.lane.now.known c.before-2.lane.known i.2.0 i.2.1 c.requires.runs
