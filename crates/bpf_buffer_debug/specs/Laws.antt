-- What follows from the definitions of commands and scripts, of CPUs with store buffers.
use Rattle.std.specs.Prelude.{◌≡◌, ℕ, ◌≤◌, List, Some}
use Rattle.bpf_debug.specs.Script.{Answer}
use Rattle.bpf_buffer_debug.specs.Session.{Scene, IsCourse}
use Rattle.bpf_buffer_debug.specs.Script.{RunsScript}

-- the moves of a scene lead from its first machine, which has 16 CPUs at most, to its own, and so they do
-- after any script that leaves a scene
abbrev pub ScriptsMakeMoves : Type 0
ScriptsMakeMoves =
    (x y : Scene) (lines : List (List ℕ)) (answers : List Answer)
    → x.first.world.store.shape.cpus ≤ 16 → RunsScript (Some x) lines answers (Some y)
    → IsCourse x → IsCourse y × (y.first ≡ x.first)
