use Rattle.std.proofs.Common.{◌≡◌, ◌&&◌, ℕ, List, true, false, Bor, Option, Some, None, map, length, nat_lt, refl, sym, subst, ◌∙◌, rules, tests}
use Rattle.std.specs.Prelude.{IfNone, IfSome}
use Rattle.std.specs.List.{list_all}
use Rattle.bpf_schedule.specs.Moves.{SpellMoves, SpellNoMoves}
use Rattle.bpf_debug.specs.Command.{is_short}
use Rattle.bpf_buffer_debug.proofs.ScheduleLaws.{moves_refused, moves_said, none_said}
use Rattle.bpf_buffer_debug.proofs.schedule.schedule_in.Goals as goal

none_by : {A : Type 0} (o : Option A) (P : Type 0) → ((v : A) → o ≡ Some v → ⊥) → IfNone o P → P
none_by None P out h = h
none_by (Some v) P out h = absurd (out v refl)

some_by : {A : Type 0} (o : Option A) (v : A) (P : A → Type 0) → o ≡ Some v → IfSome o P → P v
some_by {A} o v P e h = subst (λ (x : Option A). IfSome x P) e h

pub returns-in_default-clause-none : goal.returns-in_default-clause-none
returns-in_default-clause-none c =
    let words = map (λ (f : Bor (List ℕ)). f.now) c.args.words.now in
    none_said words (none_by c.in_ok-runs.field-0 (SpellNoMoves words) c.in_default.not-Some c.in_ok-runs.ensures.none)

pub returns-then-not-can_be_made-clause-none : goal.returns-then-not-can_be_made-clause-none
returns-then-not-can_be_made-clause-none c =
    let words = map (λ (f : Bor (List ℕ)). f.now) c.args.words.now in
    let failed : c.can_be_made.result ≡ false = search (rules, tests) in
    let T : List (ℕ × ℕ) → Type 0 = λ rs. c.can_be_made.result ≡ (nat_lt 0 (length rs) && list_all is_short rs) in
    moves_refused words c.in-Some.runs.items (some_by c.in_ok-runs.field-0 c.in-Some.runs (λ v. SpellMoves words v.items) c.in-Some.is
    c.in_ok-runs.ensures.spelled) (sym failed ∙ subst T c.deref.ensures.value c.can_be_made.ensures)

pub returns-clause-said : goal.returns-clause-said
returns-clause-said c =
    let words = map (λ (f : Bor (List ℕ)). f.now) c.args.words.now in
    let yes : c.can_be_made.result ≡ true = search (rules, tests) in
    let T : List (ℕ × ℕ) → Type 0 = λ rs. c.can_be_made.result ≡ (nat_lt 0 (length rs) && list_all is_short rs) in
    moves_said words c.in-Some.runs.items (some_by c.in_ok-runs.field-0 c.in-Some.runs (λ v. SpellMoves words v.items) c.in-Some.is
    c.in_ok-runs.ensures.spelled) (sym yes ∙ subst T c.deref.ensures.value c.can_be_made.ensures)
