-- The moves that a session made lead from its first machine to the one that it has.
use Rattle.std.proofs.Common.{◌≡◌, ◌∙◌, ℕ, ◌+◌, ◌-◌, ◌<◌, ◌≤◌, Bool, true, false, List, [], ◌∷◌, inl, inr, map, Option, Some, None, refl, sym}
use Rattle.std.proofs.Common.{ap, subst, arith}
use Rattle.std.proofs.lemmas.List.{map-append}
use Rattle.bpf_machine.specs.declared.machine.Turn.{Turn}
use Rattle.bpf_machine.specs.Schedule.{unrolled}
use Rattle.bpf_x86.specs.Machine.{X86, Move, TurnOf, FlushOf, TakesTurn}
use Rattle.bpf_buffering.specs.Search.{move_of}
use Rattle.bpf_flushes.specs.Moves.{Makes, MakesAll}
use Rattle.bpf_flushes.proofs.Joining.{all_both}
use Rattle.bpf_flushes.proofs.Turning.{turn_numbered, flush_numbered}
use Rattle.bpf_debug.specs.declared.breakpoint.Breakpoint.{Breakpoint}
use Rattle.bpf_debug.specs.declared.recall.Kind.{Kind}
use Rattle.bpf_debug.specs.declared.recall.Kind.TheVariants as kind
use Rattle.bpf_debug.specs.Command.{Break, Delete, Step, StepTimes, Steps, Go, GoTo, Back, Memory, Held, Schedule, Help, Registers, Where, Map, Keys}
use Rattle.bpf_debug.specs.Command.{Maps, Variables, Number, Jobs, Mark, Nearby, Last, Show, Watch, WatchVariable, Unwatch}
use Rattle.bpf_debug.specs.Recall.{Past}
use Rattle.bpf_debug.specs.Watch.{Watched}
use Rattle.bpf_buffer_debug.specs.Command.{Order, Plain, Flush, Buffer}
use Rattle.bpf_buffer_debug.specs.Go.{Changes, Done, FlushChanges, Flushes, Goes, Stops, Turns}
use Rattle.bpf_buffer_debug.specs.Moves.{all_moves}
use Rattle.bpf_buffer_debug.specs.Recall.{Recalls}
use Rattle.bpf_buffer_debug.specs.Session.{Scene, IsCourse, CarriesOut, behind}
use Rattle.bpf_buffer_debug.proofs.MoveLaws.{made_all}

-- ---- moves by their numbers
numbered : (c : ℕ) → move_of (128 + c) ≡ FlushOf c
numbered c =
    let same : 128 + c - 128 ≡ c = omega arith in
    flush_numbered (128 + c) (omega arith) ∙ ap (λ (d : ℕ). FlushOf d) same

turn_made : (x : X86) (c : ℕ) (answer : Turn) (z : X86) → c < 128 → TakesTurn x c answer z → Makes x (move_of c) z
turn_made x c answer z few takes = subst (λ (m : Move). Makes x m z) (sym (turn_numbered c few)) (inl (answer, takes))

flushes_made : (flushes : Bool) (x : X86) (c : ℕ) (moves : List ℕ) (z : X86) → Flushes flushes x c moves z → MakesAll x (map move_of moves) z
flushes_made false x c moves z f = subst (λ (ms : List ℕ). MakesAll x (map move_of ms) z) (sym f.0) f.1
flushes_made true x c moves z (inl f) = subst (λ (ms : List ℕ). MakesAll x (map move_of ms) z) (sym f.1) f.2
flushes_made true x c moves z (inr f) =
    let one : MakesAll x (move_of (128 + c) ∷ []) z = (z, subst (λ (m : Move). Makes x m z) (sym (numbered c)) (inl f.0), refl) in
    subst (λ (ms : List ℕ). MakesAll x (map move_of ms) z) (sym f.1) one

-- ---- those of a `go`
goes_made : (breaks : List Breakpoint) (watch : Option Watched) (flushes : Bool) (low high : ℕ) → high ≤ 128 → (x : X86) («from» : ℕ)
    (gone moves text : List ℕ) (z : X86) → Goes breaks watch flushes low high x «from» gone moves text z → MakesAll x (map move_of moves) z
goes_made breaks watch flushes low high few x «from» gone moves text z (Done idle) = refl
goes_made breaks watch flushes low high few x «from» gone moves text z (Stops up went stands break) = refl
goes_made breaks watch flushes low high few x «from» gone moves text z (Changes {c = c} {answer = answer} {m = m} up may takes differs) =
    let within = up.within in
    (m, turn_made x c answer m (omega (arith, few, within)) takes, refl)
goes_made breaks watch flushes low high few x «from» gone moves text z
    (FlushChanges {c = c} {answer = answer} {m = m} {y = y} flush up may takes same flushed differs) =
    let within = up.within in
    (m, turn_made x c answer m (omega (arith, few, within)) takes, flushes_made flushes m c flush y flushed)
goes_made breaks watch flushes low high few x «from» gone moves text z
    (Turns {c = c} {answer = answer} {m = m} {y = y} flush {moves = more} {text = rest} up may takes same flushed still goes) =
    let within = up.within in
    let after = goes_made breaks watch flushes low high few y (c + 1) (c ∷ gone) more rest z goes in
    let both = all_both (map move_of flush) (map move_of more) m y z (flushes_made flushes m c flush y flushed) after in
    (m, turn_made x c answer m (omega (arith, few, within)) takes, subst (λ (ms : List Move). MakesAll m ms z) (sym (map-append move_of flush more)) both)

-- ---- those that are made again
recalls_made : (k : Kind) (c : ℕ) (x : X86) (old : Option Past) (moves : List Move) (new : Option Past) (z : X86) → Recalls k c x old moves new z
    → MakesAll x moves z
recalls_made k c x old [] new z r = r.1
recalls_made k c x old (TurnOf d ∷ moves) new z r = (r.0, inl (r.2.0, r.2.1), recalls_made k c r.0 r.1 moves new z r.3)
recalls_made k c x old (FlushOf d ∷ moves) new z r = (r.0, r.2.0, recalls_made k c r.0 r.1 moves new z r.3)

-- ---- those of each command
led_on : (x y : Scene) (moves : List ℕ) (m : X86) → MakesAll x.here (map move_of moves) m → y ≡ behind x moves m → IsCourse x
    → IsCourse y × (y.first ≡ x.first)
led_on x y moves m made is course =
    let both = all_both (map move_of x.moves) (map move_of moves) x.first x.here m course made in
    (subst IsCourse (sym is) (subst (λ (ms : List Move). MakesAll x.first ms m) (sym (map-append move_of x.moves moves)) both), ap (λ (z : Scene). z.first) is)

stays : (x y : Scene) → y ≡ x → IsCourse x → IsCourse y × (y.first ≡ x.first)
stays x y is course = (subst IsCourse (sym is) course, ap (λ (z : Scene). z.first) is)

pub follows_on : (x : Scene) (order : Order) (text : List ℕ) (y : Scene) → x.here.world.store.shape.cpus ≤ 16 → CarriesOut x order text y
    → IsCourse x → IsCourse y × (y.first ≡ x.first)
follows_on x (Plain (Break (Some c) (Some p))) text y few f course = (subst IsCourse (sym f.1.2) course, ap (λ (z : Scene). z.first) f.1.2)
follows_on x (Plain (Delete (Some c) (Some p))) text y few f course = (subst IsCourse (sym f.1.2) course, ap (λ (z : Scene). z.first) f.1.2)
follows_on x (Plain (Step (Some c))) text y few f course =
    led_on x y (unrolled ((c, 1) ∷ [])) f.1.0 (made_all x.here (all_moves ((c, 1) ∷ [])) f.1.1 f.1.0 f.1.3) f.1.6 course
follows_on x (Plain (StepTimes (Some c) n)) text y few f course =
    led_on x y (unrolled ((c, n) ∷ [])) f.1.0 (made_all x.here (all_moves ((c, n) ∷ [])) f.1.1 f.1.0 f.1.3) f.1.6 course
follows_on x (Plain (Steps runs)) text y few f course =
    led_on x y (unrolled runs) f.1.0 (made_all x.here (all_moves runs) f.1.1 f.1.0 f.1.3) f.1.6 course
follows_on x (Plain Go) text y few f course =
    let cpus = x.here.world.store.shape.cpus in
    led_on x y f.1 f.0 (goes_made x.breaks x.watch true 0 cpus (omega (arith, few)) x.here 0 [] f.1 text f.0 f.2) f.3 course
follows_on x (Plain (GoTo (Some c) (Some p))) text y few f course =
    let went = f.1.1 in
    let one : List Breakpoint = record { cpu = c; pc = p } ∷ [] in
    let within = f.0 in
    led_on x y went.1 went.0 (goes_made one x.watch false c (c + 1) (omega (arith, few, within)) x.here c [] went.1 text went.0 went.2) went.3 course
follows_on x (Plain (Back n)) text y few f course = (subst IsCourse (sym f.1.3) f.1.1, ap (λ (z : Scene). z.first) f.1.3)
follows_on x (Plain (Last (Some c))) text y few f course =
    (subst IsCourse (sym f.1.4) (recalls_made kind.Ends c x.first None (map move_of x.moves) f.1.0 f.1.1 f.1.2), ap (λ (z : Scene). z.first) f.1.4)
follows_on x (Plain (Show (Some c))) text y few (has, inl f) course = stays x y f.1 course
follows_on x (Plain (Show (Some c))) text y few (has, inr f) course =
    (subst IsCourse (sym f.4) (recalls_made kind.Works c x.first None (map move_of x.moves) f.0 f.1 f.2), ap (λ (z : Scene). z.first) f.4)
follows_on x (Plain (Watch name word)) text y few f course = (subst IsCourse (sym f.1) course, ap (λ (z : Scene). z.first) f.1)
follows_on x (Plain (WatchVariable name)) text y few f course = (subst IsCourse (sym f.1) course, ap (λ (z : Scene). z.first) f.1)
follows_on x (Plain Unwatch) text y few f course = (subst IsCourse (sym f.1) course, ap (λ (z : Scene). z.first) f.1)
follows_on x (Plain (Break None p)) text y few f course = stays x y f.1 course
follows_on x (Plain (Break (Some c) None)) text y few f course = stays x y f.1 course
follows_on x (Plain (Delete None p)) text y few f course = stays x y f.1 course
follows_on x (Plain (Delete (Some c) None)) text y few f course = stays x y f.1 course
follows_on x (Plain (Step None)) text y few f course = stays x y f.1 course
follows_on x (Plain (StepTimes None n)) text y few f course = stays x y f.1 course
follows_on x (Plain (GoTo None p)) text y few f course = stays x y f.1 course
follows_on x (Plain (GoTo (Some c) None)) text y few f course = stays x y f.1 course
follows_on x (Plain (Last None)) text y few f course = stays x y f.1 course
follows_on x (Plain (Show None)) text y few f course = stays x y f.1 course
follows_on x (Plain (Registers c)) text y few f course = stays x y f.1 course
follows_on x (Plain (Where c)) text y few f course = stays x y f.1 course
follows_on x (Plain (Memory c at n)) text y few f course = stays x y f.1 course
follows_on x (Plain (Map name)) text y few f course = stays x y f.1 course
follows_on x (Plain (Keys name)) text y few f course = stays x y f.1 course
follows_on x (Plain Schedule) text y few f course = stays x y f.1 course
follows_on x (Plain Maps) text y few f course = stays x y f.1 course
follows_on x (Plain Variables) text y few f course = stays x y f.1 course
follows_on x (Plain (Number name)) text y few f course = stays x y f.1 course
follows_on x (Plain Jobs) text y few f course = stays x y f.1 course
follows_on x (Plain (Mark n)) text y few f course = stays x y f.1 course
follows_on x (Plain Help) text y few f course = stays x y f.1 course
follows_on x (Plain (Held c)) text y few f course = stays x y f.1 course
follows_on x (Plain (Nearby c)) text y few f course = stays x y f.1 course
follows_on x (Flush (Some c)) text y few f course =
    let made : MakesAll x.here (move_of (128 + c) ∷ []) f.1.0 =
    (f.1.0, subst (λ (m : Move). Makes x.here m f.1.0) (sym (numbered c)) f.1.1, refl) in
    led_on x y ((128 + c) ∷ []) f.1.0 made f.1.3 course
follows_on x (Flush None) text y few f course = absurd f
follows_on x (Buffer (Some c)) text y few f course = stays x y f.2 course
follows_on x (Buffer None) text y few f course = absurd f
