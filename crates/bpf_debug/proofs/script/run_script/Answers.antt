use Rattle.std.proofs.Common.{List, ℕ, Option, None, Result, Bor, map, sym, subst, refl, String, Global}
use Rattle.std.specs.Prelude.{IfOk}
use Rattle.std.specs.Option.{option_copied}
use Rattle.bpf_lines.specs.Lines.{lines_behind}
use Rattle.bpf_debug.specs.declared.error.DebugError.{DebugError}
use Rattle.bpf_debug.specs.Session.{Scene, IsShown}
use Rattle.bpf_debug.specs.Script.{RunsScript, answer_of}
use Rattle.bpf_debug.proofs.script.run_script.Goals as goal

pub returns-in-Some-clause-answered : goal.returns-in-Some-clause-answered
returns-in-Some-clause-answered c =
    let P : Option (Bor (List ℕ)) → Type 0 = λ script. IfOk c.follow_lines.result
    (λ answers. (x : Scene) → IsShown c.args.session.now x → (y : Scene) × RunsScript x (lines_behind (option_copied script))
    (map answer_of answers.items) y × IsShown c.follow_lines.new.session y) in
    subst P (sym c.in-Some.is) c.follow_lines.ensures.answered

pub returns-in-None-clause-answered : goal.returns-in-None-clause-answered
returns-in-None-clause-answered c =
    let A : List (Result (String Global) DebugError) → Option (Bor (List ℕ)) → Type 0 = λ items script. (x : Scene) → IsShown
    c.args.session.now x → (y : Scene) × RunsScript x (lines_behind (option_copied script)) (map answer_of items) y × IsShown
    c.args.session.now y in
    let P : Option (Bor (List ℕ)) → Type 0 = A c.new.result.items in
    let Q : List (Result (String Global) DebugError) → Type 0 = λ items. A items None in
    subst P (sym c.in-None.is) (subst Q (sym c.new.ensures.items) (λ x shown. (x, refl {a = x}, shown)))
