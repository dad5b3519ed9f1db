-- The turns of a session, in run lengths.
use Rattle.std.proofs.Common.{◌≡◌, ℕ, zero, suc, ◌+◌, ◌-◌, ◌<◌, ◌≤◌, take, Bool, true, false, ◌&&◌, List, [], ◌∷◌, ◌++◌, length, drop}
use Rattle.std.proofs.Common.{get_or, Option, Some, None, refl, sym, ap, subst, ◌∙◌, arith, append_assoc, append-nil, replicate}
use Rattle.std.proofs.Common.{if◌then◌else◌}
use Rattle.std.specs.Prelude.{◌==◌, nat_lt, slice_set}
use Rattle.std.specs.List.{list_all}
use Rattle.std.proofs.lemmas.Bool.{and_parts, ltb-true, eqb-true, eq-eqb, ne_eqb, le-leb, lt-ltb, le-ltb}
use Rattle.std.proofs.Math.Seq.{drop-cons}
use Rattle.std.proofs.lemmas.List.{drop_all, length-append, length-replicate, replicate-append-replicate}
use Rattle.bpf_machine.specs.Schedule.{unrolled}
use Rattle.bpf_debug.specs.Command.{is_short, most_turns}
use Rattle.bpf_debug.specs.Laws.{RunsTellTurns}
use Rattle.bpf_debug.specs.Course.{with_turn, with_turns, DropsTurn, HaveTurns, IsKept, KeepsOn, TakesBack}

-- ---- the next run, and none
pub run_next : (runs : List (ℕ × ℕ)) (at : ℕ) → at < length runs → drop at runs ≡ get_or runs at (0, 0) ∷ drop (at + 1) runs
run_next runs at inside =
    let next : suc at ≡ at + 1 = omega arith in
    drop-cons runs at (0, 0) inside ∙ ap (λ (i : ℕ). get_or runs at (0, 0) ∷ drop i runs) next

pub none_left : (runs : List (ℕ × ℕ)) (at : ℕ) → length runs ≤ at → drop at runs ≡ []
none_left runs at past = drop_all at runs past

-- ---- turns more
more_turns : (runs : List (ℕ × ℕ)) (a b : List ℕ) → with_turns runs (a ++ b) ≡ with_turns (with_turns runs a) b
more_turns runs [] b = refl
more_turns runs (c ∷ a) b = more_turns (with_turn runs c) a b

pub keeps_none : (old : Option (List (ℕ × ℕ))) → KeepsOn old [] old
keeps_none old turns kept = subst (IsKept old) (sym (append-nil turns)) kept

pub keeps_more : (old mid new : Option (List (ℕ × ℕ))) (a b : List ℕ) → KeepsOn old a mid → KeepsOn mid b new → KeepsOn old (a ++ b) new
keeps_more old mid new a b before after turns kept =
    subst (IsKept new) (append_assoc turns a b) (after (turns ++ a) (before turns kept))

keeps_one : (runs new : List (ℕ × ℕ)) (c : ℕ) → new ≡ with_turn runs c → KeepsOn (Some runs) (c ∷ []) (Some new)
keeps_one runs new c is turns kept =
    is ∙ ap (λ (rs : List (ℕ × ℕ)). with_turn rs c) kept ∙ sym (more_turns [] turns (c ∷ []))

pub keeps_lost : (old : Option (List (ℕ × ℕ))) (more : List ℕ) → KeepsOn old more None
keeps_lost old more turns kept = tt

-- where all turns are kept, as the flag says
pub keeps_whole : (b : Bool) (old : Option (List (ℕ × ℕ))) (runs new : List (ℕ × ℕ)) (c : ℕ) → b ≡ true → (if b then Some runs else None) ≡
    old → new ≡ with_turn runs c
    → KeepsOn old (c ∷ []) (if b then Some new else None)
keeps_whole true old runs new c whole was is = subst (λ (o : Option (List (ℕ × ℕ))). KeepsOn o (c ∷ []) (Some new)) was (keeps_one runs new c is)
keeps_whole false old runs new c whole was is = absurd cc

-- ---- the last run
abbrev pub may_go_on : ℕ × ℕ → ℕ → Bool
may_go_on run c = (run.0 == c) && nat_lt run.1 most_turns

may : (run : ℕ × ℕ) (c : ℕ) → run.0 ≡ c → run.1 < most_turns → may_go_on run c ≡ true
may run c own room = ap (λ (b : Bool). b && nat_lt run.1 most_turns) (eq-eqb run.0 c own) ∙ lt-ltb run.1 most_turns room

pub other_cpu : (run : ℕ × ℕ) (c : ℕ) → (run.0 ≡ c → ⊥) → may_go_on run c ≡ false
other_cpu run c other = ap (λ (b : Bool). b && nat_lt run.1 most_turns) (ne_eqb run.0 c other)

pub is_full : (run : ℕ × ℕ) (c : ℕ) → run.0 ≡ c → most_turns ≤ run.1 → may_go_on run c ≡ false
is_full run c own full = ap (λ (b : Bool). b && nat_lt run.1 most_turns) (eq-eqb run.0 c own) ∙ le-ltb run.1 most_turns full

pub last_longer : (runs : List (ℕ × ℕ)) (last : ℕ × ℕ) (c n : ℕ) → n + 1 ≡ length runs → last ≡ get_or runs n last
    → last.0 ≡ c → last.1 < most_turns → slice_set runs n (c, last.1 + 1) ≡ with_turn runs c
last_longer [] last c n e is own room = absurd (omega (arith, e))
last_longer (run ∷ []) last c zero e is own room =
    let yes : may_go_on run c ≡ true = subst (λ (r : ℕ × ℕ). may_go_on r c ≡ true) is (may last c own room) in
    ap (λ (r : ℕ × ℕ). (c, r.1 + 1) ∷ []) is ∙ ap (λ (b : Bool). if b then (c, run.1 + 1) ∷ [] else run ∷ (c, 1) ∷ []) (sym yes)
last_longer (run ∷ []) last c (suc n) e is own room = absurd (omega (arith, e))
last_longer (run ∷ next ∷ runs) last c zero e is own room = absurd (omega (arith, e))
last_longer (run ∷ next ∷ runs) last c (suc n) e is own room =
    ap (λ (rs : List (ℕ × ℕ)). run ∷ rs) (last_longer (next ∷ runs) last c n (omega (arith, e)) is own room)

pub one_run_more : (runs : List (ℕ × ℕ)) (last : ℕ × ℕ) (c n : ℕ) → n + 1 ≡ length runs → last ≡ get_or runs n last
    → may_go_on last c ≡ false → runs ++ (c, 1) ∷ [] ≡ with_turn runs c
one_run_more [] last c n e is out = absurd (omega (arith, e))
one_run_more (run ∷ []) last c zero e is out =
    let no : may_go_on run c ≡ false = subst (λ (r : ℕ × ℕ). may_go_on r c ≡ false) is out in
    ap (λ (b : Bool). if b then (c, run.1 + 1) ∷ [] else run ∷ (c, 1) ∷ []) (sym no)
one_run_more (run ∷ []) last c (suc n) e is out = absurd (omega (arith, e))
one_run_more (run ∷ next ∷ runs) last c zero e is out = absurd (omega (arith, e))
one_run_more (run ∷ next ∷ runs) last c (suc n) e is out =
    ap (λ (rs : List (ℕ × ℕ)). run ∷ rs) (one_run_more (next ∷ runs) last c n (omega (arith, e)) is out)

-- ---- they determine their turns
longer : (run : ℕ × ℕ) (c : ℕ) (b : Bool) → ((run.0 == c) && nat_lt run.1 most_turns) ≡ b
    → unrolled (if b then (c, run.1 + 1) ∷ [] else run ∷ (c, 1) ∷ []) ≡ (replicate run.1 run.0 ++ []) ++ c ∷ []
longer run c true e =
    let same : run.0 ≡ c = eqb-true run.0 c (and_parts (run.0 == c) (nat_lt run.1 most_turns) e).0 in
    append-nil (replicate (run.1 + 1) c) ∙ sym (replicate-append-replicate run.1 1 c)
    ∙ ap (λ (d : ℕ). replicate run.1 d ++ c ∷ []) (sym same) ∙ ap (λ (cs : List ℕ). cs ++ c ∷ []) (sym (append-nil (replicate run.1 run.0)))
longer run c false e = ap (λ (cs : List ℕ). cs ++ c ∷ []) (sym (append-nil (replicate run.1 run.0)))

one_turn_more : (runs : List (ℕ × ℕ)) (c : ℕ) → unrolled (with_turn runs c) ≡ unrolled runs ++ c ∷ []
one_turn_more [] c = refl
one_turn_more (run ∷ []) c = longer run c ((run.0 == c) && nat_lt run.1 most_turns) refl
one_turn_more (run ∷ next ∷ runs) c =
    ap (λ (cs : List ℕ). replicate run.1 run.0 ++ cs) (one_turn_more (next ∷ runs) c)
    ∙ sym (append_assoc (replicate run.1 run.0) (unrolled (next ∷ runs)) (c ∷ []))

turns_more : (runs : List (ℕ × ℕ)) (turns : List ℕ) → unrolled (with_turns runs turns) ≡ unrolled runs ++ turns
turns_more runs [] = sym (append-nil (unrolled runs))
turns_more runs (c ∷ turns) =
    turns_more (with_turn runs c) turns ∙ ap (λ (cs : List ℕ). cs ++ turns) (one_turn_more runs c) ∙ append_assoc (unrolled runs) (c ∷ []) turns

-- ---- none is too long
still_short : (run : ℕ × ℕ) (c : ℕ) (b : Bool) → ((run.0 == c) && nat_lt run.1 most_turns) ≡ b → is_short run ≡ true
    → list_all is_short (if b then (c, run.1 + 1) ∷ [] else run ∷ (c, 1) ∷ []) ≡ true
still_short run c true e short =
    let less : run.1 < most_turns = ltb-true run.1 most_turns (and_parts (run.0 == c) (nat_lt run.1 most_turns) e).1 in
    ap (λ (t : Bool). t && true) (le-leb (run.1 + 1) most_turns (omega (arith, less)))
still_short run c false e short = ap (λ (t : Bool). t && true) short

short_more : (runs : List (ℕ × ℕ)) (c : ℕ) → list_all is_short runs ≡ true → list_all is_short (with_turn runs c) ≡ true
short_more [] c short = refl
short_more (run ∷ []) c short =
    still_short run c ((run.0 == c) && nat_lt run.1 most_turns) refl (and_parts (is_short run) true short).0
short_more (run ∷ next ∷ runs) c short =
    let both = and_parts (is_short run) (list_all is_short (next ∷ runs)) short in
    ap (λ (t : Bool). t && list_all is_short (with_turn (next ∷ runs) c)) both.0 ∙ short_more (next ∷ runs) c both.1

all_short : (runs : List (ℕ × ℕ)) (turns : List ℕ) → list_all is_short runs ≡ true → list_all is_short (with_turns runs turns) ≡ true
all_short runs [] short = short
all_short runs (c ∷ turns) short = all_short (with_turn runs c) turns (short_more runs c short)

pub runs_tell_turns : RunsTellTurns
runs_tell_turns turns = (turns_more [] turns, all_short [] turns refl)

-- ---- the last turn is taken away
abbrev Undoes : List (ℕ × ℕ) → ℕ → List (ℕ × ℕ) → ℕ → ℕ × ℕ → Type 0
Undoes runs d longer n last =
    (last.0 ≡ d) × (1 < last.1 → slice_set longer n (last.0, last.1 - 1) ≡ runs) × (last.1 ≤ 1 → take n longer ≡ runs)

one_undone : (run last : ℕ × ℕ) (d n : ℕ) (b : Bool) → ((run.0 == d) && nat_lt run.1 most_turns) ≡ b → 0 < run.1
    → n + 1 ≡ length (if b then (d, run.1 + 1) ∷ [] else run ∷ (d, 1) ∷ []) → last ≡ get_or (if b then (d, run.1 + 1) ∷ [] else run ∷ (d, 1) ∷ []) n last
    → Undoes (run ∷ []) d (if b then (d, run.1 + 1) ∷ [] else run ∷ (d, 1) ∷ []) n last
one_undone run last d zero true e some size is =
    let own : run.0 ≡ d = eqb-true run.0 d (and_parts (run.0 == d) (nat_lt run.1 most_turns) e).0 in
    let whose : last.0 ≡ d = ap (λ (r : ℕ × ℕ). r.0) is in
    let count : last.1 ≡ run.1 + 1 = ap (λ (r : ℕ × ℕ). r.1) is in
    let less : last.1 - 1 ≡ run.1 = omega (arith, count) in
    let back : (last.0, last.1 - 1) ≡ run = ap (λ (c : ℕ). (c, last.1 - 1)) (whose ∙ sym own) ∙ ap (λ (k : ℕ). (run.0, k)) less in
    (whose, λ more. ap (λ (r : ℕ × ℕ). r ∷ []) back, λ few. absurd (omega (arith, count, few, some)))
one_undone run last d (suc n) true e some size is = absurd (omega (arith, size))
one_undone run last d zero false e some size is = absurd (omega (arith, size))
one_undone run last d (suc zero) false e some size is =
    let count : last.1 ≡ 1 = ap (λ (r : ℕ × ℕ). r.1) is in
    (ap (λ (r : ℕ × ℕ). r.0) is, λ more. absurd (omega (arith, count, more)), λ few. refl)
one_undone run last d (suc (suc n)) false e some size is = absurd (omega (arith, size))

some_of : (run : ℕ × ℕ) (d : ℕ) (b : Bool) → 1 ≤ length (if b then (d, run.1 + 1) ∷ [] else run ∷ (d, 1) ∷ [])
some_of run d true = omega arith
some_of run d false = omega arith

some_there : (runs : List (ℕ × ℕ)) (d : ℕ) → 1 ≤ length (with_turn runs d)
some_there [] d = omega arith
some_there (run ∷ []) d = some_of run d ((run.0 == d) && nat_lt run.1 most_turns)
some_there (run ∷ next ∷ runs) d = omega arith

last_undone : (runs : List (ℕ × ℕ)) (last : ℕ × ℕ) (d n : ℕ) → HaveTurns runs → n + 1 ≡ length (with_turn runs d) → last ≡ get_or (with_turn runs d) n last
    → Undoes runs d (with_turn runs d) n last
last_undone [] last d zero some size is =
    let count : last.1 ≡ 1 = ap (λ (r : ℕ × ℕ). r.1) is in
    (ap (λ (r : ℕ × ℕ). r.0) is, λ more. absurd (omega (arith, count, more)), λ few. refl)
last_undone [] last d (suc n) some size is = absurd (omega (arith, size))
last_undone (run ∷ []) last d n some size is = one_undone run last d n ((run.0 == d) && nat_lt run.1 most_turns) refl some.0 size is
last_undone (run ∷ next ∷ runs) last d zero some size is = absurd (omega (arith, size, some_there (next ∷ runs) d))
last_undone (run ∷ next ∷ runs) last d (suc n) some size is =
    let u = last_undone (next ∷ runs) last d n some.1 (omega (arith, size)) is in
    (u.0, λ more. ap (λ (rs : List (ℕ × ℕ)). run ∷ rs) (u.1 more), λ few. ap (λ (rs : List (ℕ × ℕ)). run ∷ rs) (u.2 few))

-- of the last of some runs, which has more turns than one, or one
pub drops_one : (old new : List (ℕ × ℕ)) (last : ℕ × ℕ) (n : ℕ) → n + 1 ≡ length old → last ≡ get_or old n last → 1 < last.1 → new ≡
    slice_set old n (last.0, last.1 - 1) → DropsTurn old new last.0
drops_one old new last n size is more put runs d some was =
    let U : List (ℕ × ℕ) → Type 0 = λ rs. (last.0 ≡ d) × (1 < last.1 → slice_set rs n (last.0, last.1 - 1) ≡ runs) × (last.1 ≤ 1 → take n rs ≡ runs) in
    let u = subst U (sym was) (last_undone runs last d n some (size ∙ ap (λ (rs : List (ℕ × ℕ)). length rs) was)
    (is ∙ ap (λ (rs : List (ℕ × ℕ)). get_or rs n last) was)) in
    (put ∙ u.1 more, u.0)

pub drops_run : (old new : List (ℕ × ℕ)) (last : ℕ × ℕ) (n : ℕ) → n + 1 ≡ length old → last ≡ get_or old n last → last.1 ≤ 1 → new ≡ take n
    old → DropsTurn old new last.0
drops_run old new last n size is few put runs d some was =
    let U : List (ℕ × ℕ) → Type 0 = λ rs. (last.0 ≡ d) × (1 < last.1 → slice_set rs n (last.0, last.1 - 1) ≡ runs) × (last.1 ≤ 1 → take n rs ≡ runs) in
    let u = subst U (sym was) (last_undone runs last d n some (size ∙ ap (λ (rs : List (ℕ × ℕ)). length rs) was)
    (is ∙ ap (λ (rs : List (ℕ × ℕ)). get_or rs n last) was)) in
    (put ∙ u.2 few, u.0)

-- there is a last one
pub drops_none : (old new : List (ℕ × ℕ)) (c : ℕ) → length old ≡ 0 → DropsTurn old new c
drops_none old new c none runs d some was =
    absurd (omega (arith, none, ap (λ (rs : List (ℕ × ℕ)). length rs) was, some_there runs d))

-- ---- each run has a turn
still_one : (run : ℕ × ℕ) (d : ℕ) (b : Bool) → 0 < run.1 → HaveTurns (if b then (d, run.1 + 1) ∷ [] else run ∷ (d, 1) ∷ [])
still_one run d true some = (omega arith, tt)
still_one run d false some = (some, (omega arith, tt))

still_turns : (runs : List (ℕ × ℕ)) (d : ℕ) → HaveTurns runs → HaveTurns (with_turn runs d)
still_turns [] d some = (omega arith, tt)
still_turns (run ∷ []) d some = still_one run d ((run.0 == d) && nat_lt run.1 most_turns) some.0
still_turns (run ∷ next ∷ runs) d some = (some.0, still_turns (next ∷ runs) d some.1)

all_turns : (runs : List (ℕ × ℕ)) (turns : List ℕ) → HaveTurns runs → HaveTurns (with_turns runs turns)
all_turns runs [] some = some
all_turns runs (c ∷ turns) some = all_turns (with_turn runs c) turns (still_turns runs c some)

-- ---- turns are taken away, one after the other
pub took_none : (runs : List (ℕ × ℕ)) → TakesBack runs 0 runs 0
took_none runs turns [] size is = (is ∙ ap (λ (cs : List ℕ). with_turns [] cs) (append-nil turns), refl)
took_none runs turns (c ∷ more) size is = absurd (omega (arith, size))

pub took_more : (old mid new : List (ℕ × ℕ)) (n c d : ℕ) → TakesBack old n mid c → DropsTurn mid new d → TakesBack old (n + 1) new d
took_more old mid new n c d before drops turns [] size is = absurd (omega (arith, size))
took_more old mid new n c d before drops turns (e ∷ more) size is =
    let t = before (turns ++ e ∷ []) more (omega (arith, size)) (is ∙ ap (λ (cs : List ℕ). with_turns [] cs) (sym (append_assoc turns (e ∷ []) more))) in
    drops (with_turns [] turns) e (all_turns [] turns tt) (t.0 ∙ more_turns [] turns (e ∷ []))

-- where all turns are kept, as the flag says
pub kept_runs : (b : Bool) (old : Option (List (ℕ × ℕ))) (runs told : List (ℕ × ℕ)) → (if b then Some runs else None) ≡ old → old ≡ Some told → runs ≡ told
kept_runs true old runs told is kept = let both : Some runs ≡ Some told = is ∙ kept in cc
kept_runs false old runs told is kept = let both : None ≡ Some told = is ∙ kept in cc

-- ---- how many there are
pub unrolled_more : (run : ℕ × ℕ) (runs : List (ℕ × ℕ)) → length (unrolled (run ∷ runs)) ≡ run.1 + length (unrolled runs)
unrolled_more run runs = length-append (replicate run.1 run.0) (unrolled runs) ∙ ap (λ (k : ℕ). k + length (unrolled runs)) (length-replicate run.1 run.0)

pub left_next : (runs : List (ℕ × ℕ)) (at : ℕ) → at < length runs → length (unrolled (drop at runs)) ≡ (get_or runs at (0, 0)).1 + length
    (unrolled (drop (at + 1) runs))
left_next runs at inside = ap (λ (rs : List (ℕ × ℕ)). length (unrolled rs)) (run_next runs at inside) ∙ unrolled_more
    (get_or runs at (0, 0)) (drop (at + 1) runs)

pub left_none : (runs : List (ℕ × ℕ)) (at : ℕ) → length runs ≤ at → length (unrolled (drop at runs)) ≡ 0
left_none runs at past = ap (λ (rs : List (ℕ × ℕ)). length (unrolled rs)) (none_left runs at past)
