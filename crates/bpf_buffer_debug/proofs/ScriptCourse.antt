-- The moves that scripts make lead from the first machine to the one that is there, of as many CPUs.
use Rattle.std.proofs.Common.{◌≡◌, ◌∙◌, ℕ, zero, suc, ◌≤◌, List, [], ◌∷◌, inl, inr, map, Option, Some, None, refl, sym, ap, subst}
use Rattle.std.specs.Prelude.{Ok, Err}
use Rattle.bpf_lines.specs.Lines.{fields_of}
use Rattle.bpf_shared.specs.declared.events.Event.TheVariants.{Begin, End}
use Rattle.bpf_shared.specs.Shape.{Shape}
use Rattle.bpf_shared.specs.Store.{Plain}
use Rattle.bpf_shared.proofs.Leaving.{event_shape}
use Rattle.bpf_loader.specs.Loaded.{Loaded}
use Rattle.bpf_cpu.specs.declared.cpu.Cpu.{Cpu}
use Rattle.bpf_cpu.specs.declared.outcome.Outcome.{Outcome}
use Rattle.bpf_cpu.specs.State.{start}
use Rattle.bpf_cpu.specs.Task.{Task}
use Rattle.bpf_machine.specs.declared.machine.Turn.{Turn}
use Rattle.bpf_machine.specs.Schedule.{World}
use Rattle.bpf_machine.proofs.ListLaws.{lists_store}
use Rattle.bpf_x86.specs.Buffers.{Buffered}
use Rattle.bpf_x86.specs.Machine.{X86, Move, TurnOf, FlushOf, Advances, Settled, GoesOn, TakesTurn, buffered, with_buffered}
use Rattle.bpf_buffering.specs.Search.{move_of}
use Rattle.bpf_buffering.proofs.Fronting.{call_shape, calls_shape, drain_shape, flush_shape}
use Rattle.bpf_flushes.specs.Moves.{Makes, MakesAll}
use Rattle.bpf_debug.specs.Script.{Answer}
use Rattle.bpf_buffer_debug.specs.Laws.{ScriptsMakeMoves}
use Rattle.bpf_buffer_debug.specs.Session.{Scene, IsCourse, Obeys}
use Rattle.bpf_buffer_debug.specs.Script.{AnswersLine, RunsScript}
use Rattle.bpf_buffer_debug.proofs.CourseLaws.{follows_on}

-- ---- moves leave the store's shape
abbrev shape_of : X86 → Shape
shape_of x = x.world.store.shape

shape_advanced : (program : Loaded) (c : ℕ) (b : Buffered) (old : Cpu) (left : ℕ) (end : Option Outcome) (t : Buffered) (new : Cpu) (rest : ℕ)
    → Advances program c b old left end t new rest → t.memory.shape ≡ b.memory.shape
shape_advanced program c b old zero end t new rest a = ap (λ (m : Buffered). m.memory.shape) a.1
shape_advanced program c b old (suc n) end t new rest a = calls_shape c a.0 b t a.3

shape_settled : (x : X86) (c j : ℕ) (task : Task) (new : Cpu) (left : ℕ) (end : Option Outcome) (answer : Turn) (z : X86)
    → Settled x c j task new left end answer z → shape_of z ≡ shape_of x
shape_settled x c j task new left None answer z s = ap (λ (w : World). w.store.shape) s.0.1
shape_settled x c j task new left (Some end) answer z s =
    let stored = lists_store _ c z.world s.2.3 in
    ap (λ (p : Plain). p.shape) stored ∙ event_shape s.0.memory s.2.0 c End s.2.1.0 ∙ drain_shape (buffered x) s.0 c s.1

shape_gone : (x : X86) (c j : ℕ) (task : Task) (old : Cpu) (left : ℕ) (answer : Turn) (z : X86) → GoesOn x c j task old left answer z
    → shape_of z ≡ shape_of x
shape_gone x c j task old left answer z g =
    shape_settled (with_buffered x g.2) c j task g.3 g.4 g.1 answer z g.7 ∙ shape_advanced g.0 c (buffered x) old left g.1 g.2 g.3 g.4 g.6

shape_turned : (x : X86) (c : ℕ) (answer : Turn) (z : X86) → TakesTurn x c answer z → shape_of z ≡ shape_of x
shape_turned x c answer z (inl a) = shape_gone x c a.0 a.1 a.2 a.3 answer z a.5
shape_turned x c answer z (inr (inl (free, a))) =
    shape_gone (with_buffered x a.3) c a.0 a.1 (start c a.2) a.1.budget answer z a.7 ∙ call_shape (buffered x) a.3 c Begin a.6
shape_turned x c answer z (inr (inr a)) = ap shape_of a.3

shape_made : (x : X86) (move : Move) (z : X86) → Makes x move z → shape_of z ≡ shape_of x
shape_made x (TurnOf c) z (inl m) = shape_turned x c m.0 z m.1
shape_made x (FlushOf c) z (inl m) = ap shape_of m.2 ∙ flush_shape (buffered x) m.0 c m.1
shape_made x move z (inr m) = ap shape_of m.1

shape_all : (x : X86) (moves : List Move) (z : X86) → MakesAll x moves z → shape_of z ≡ shape_of x
shape_all x [] z made = ap shape_of made
shape_all x (m ∷ ms) z made = shape_all made.0 ms z made.2 ∙ shape_made x m made.0 made.1

-- ---- a line
abbrev Leads : Scene → Scene → Type 0
Leads x y = IsCourse y × (y.first ≡ x.first)

obeyed : (x : Scene) (fields : List (List ℕ)) (text : List ℕ) (y : Scene) → x.here.world.store.shape.cpus ≤ 16 → Obeys x fields text y
    → IsCourse x → Leads x y
obeyed x [] text y few f course = (subst IsCourse (sym f.1) course, ap (λ (z : Scene). z.first) f.1)
obeyed x (field ∷ fields) text y few f course = follows_on x f.0 text y few f.2 course

answered : (x y : Scene) (line : List ℕ) (answer : Answer) → x.first.world.store.shape.cpus ≤ 16 → AnswersLine (Some x) line answer (Some y)
    → IsCourse x → Leads x y
answered x y line (Ok text) few f course =
    let here : x.here.world.store.shape.cpus ≤ 16 =
    subst (λ (h : Shape). h.cpus ≤ 16) (sym (shape_all x.first (map move_of x.moves) x.here course)) few in
    let same : Some y ≡ Some f.0 = f.2 in
    let is : f.0 ≡ y = cc in
    subst (Leads x) is (obeyed x (fields_of line) text f.0 here f.1 course)
answered x y line (Err e) few (refused, inl same) course =
    let is : x ≡ y = cc in
    subst (Leads x) is (course, refl)
answered x y line (Err e) few (refused, inr lost) course = let no : Some y ≡ None = lost.1 in cc

-- ---- scripts
-- without a scene there is none after a line
none_next : (line : List ℕ) (answer : Answer) (y : Option Scene) → AnswersLine None line answer y → y ≡ None
none_next line (Ok text) y f = f.2
none_next line (Err e) y f = f.2

none_left : (lines : List (List ℕ)) (answers : List Answer) (y : Option Scene) → RunsScript None lines answers y → y ≡ None
none_left [] [] y runs = runs
none_left (line ∷ lines) (answer ∷ answers) y runs =
    none_left lines answers y (subst (λ (m : Option Scene). RunsScript m lines answers y) (none_next line answer runs.0 runs.1) runs.2)
none_left [] (answer ∷ answers) y runs = absurd runs
none_left (line ∷ lines) [] y runs = absurd runs

pub scripts_make_moves : ScriptsMakeMoves
scripts_make_moves x y [] [] few runs course =
    let is : x ≡ y = cc in
    subst (Leads x) is (course, refl)
scripts_make_moves x y (line ∷ lines) (answer ∷ answers) few (None, one, rest) course =
    let no : Some y ≡ None = none_left lines answers (Some y) rest in
    cc
scripts_make_moves x y (line ∷ lines) (answer ∷ answers) few (Some m, one, rest) course =
    let step = answered x m line answer few one course in
    let still = subst (λ (f : X86). f.world.store.shape.cpus ≤ 16) (sym step.1) few in
    let all = scripts_make_moves m y lines answers still rest step.0 in
    (all.0, all.1 ∙ step.1)
scripts_make_moves x y [] (answer ∷ answers) few runs course = absurd runs
scripts_make_moves x y (line ∷ lines) [] few runs course = absurd runs
