-- What `debug` replies, put together.
use Rattle.std.proofs.Common.{Ok, Err, Result, String, Global, ◌≡◌, ◌⊎◌, inl, inr, ℕ, List, [], ◌∷◌, length, map, Bool, Option, Some, None, refl, sym, subst}
use Rattle.std.specs.Prelude.{◌&&◌, Vec, is_err}
use Rattle.std.specs.List.{list_any}
use Rattle.bpf_cpu.specs.Task.{Task}
use Rattle.bpf_machine.specs.Machine.{Shows}
use Rattle.bpf_jobs.specs.Printed.{any_stopped}
use Rattle.bpf_file.specs.declared.error.FileError.{FileError}
use Rattle.bpf_file.specs.declared.error.FileError.TheVariants as file_error
use Rattle.bpf_file.specs.declared.file.RunFile.{RunFile}
use Rattle.bpf_file.specs.File.{file_of}
use Rattle.bpf_file.specs.Reading.{IsRunFile}
use Rattle.bpf_debug.specs.Course.{IsKept}
use Rattle.bpf_debug.specs.Session.{SessionState, Scene, IsShown}
use Rattle.bpf_debug.specs.declared.error.DebugError.{DebugError}
use Rattle.bpf_debug.specs.Script.{Answer, RunsScript, answer_of}
use Rattle.bpf_replies.specs.Refusals.{file_refusal}
use Rattle.bpf_replies.specs.Script.{AreShown, IsCut, IsDebugReply, IsScriptOfFile, any_refused, first_world_of, scene_of}
use Rattle.bpf_replies.specs.declared.reply.Reply.{Reply}
use Rattle.bpf_replies.specs.declared.reply.Reply.TheVariants as reply

-- the reply to a file that was read is one to the input that it was cut off
pub of_file : (echo strict : Bool) (input file : List ℕ) (commands : List (List ℕ)) (f : RunFile) (r : Reply) → IsCut input file commands →
    IsRunFile file (Ok (file_of f))
    → IsDebugReply echo strict f commands r → IsScriptOfFile echo strict input r
of_file echo strict input file commands f (reply.Script answers lines stopped refused) cut said h =
    (file, commands, file_of f, h.0, cut, said, h.1, h.2, h.3, h.4)
of_file echo strict input file commands f (reply.Refused r) cut said h = absurd h
of_file echo strict input file commands f (reply.Ended outcome) cut said h = absurd h
of_file echo strict input file commands f (reply.Text text) cut said h = absurd h
of_file echo strict input file commands f (reply.Jobs text stopped) cut said h = absurd h
of_file echo strict input file commands f (reply.Counted text stopped stats) cut said h = absurd h
of_file echo strict input file commands f (reply.Outcomes text stopped all) cut said h = absurd h
of_file echo strict input file commands f (reply.NoOutcome text all) cut said h = absurd h
of_file echo strict input file commands f (reply.Several text refused unmet told) cut said h = absurd h

-- that of a file that isn't read
pub of_no_file : (echo strict : Bool) (input file : List ℕ) (commands : List (List ℕ)) (e : FileError) → IsCut input file commands →
    (e ≡ file_error.OutOfMemory) ⊎ IsRunFile file (Err e)
    → IsScriptOfFile echo strict input (reply.Refused (file_refusal e))
of_no_file echo strict input file commands (file_error.Refused line why) cut (inl lacks) = absurd (let wrong : ⊥ = cc in wrong)
of_no_file echo strict input file commands (file_error.Refused line why) cut (inr said) = (file, commands, cut, said)
of_no_file echo strict input file commands file_error.OutOfMemory cut h = tt

-- refusals are those of the answers as they are read
pub refused_alike : (answers : List (Result (String Global) DebugError)) → list_any is_err answers ≡ any_refused (map answer_of answers)
refused_alike [] = refl
refused_alike (Ok text ∷ answers) = refused_alike answers
refused_alike (Err e ∷ answers) = refl

-- the session that was made of a file, and what is printed of its machine in the end
pub ended : (echo strict : Bool) (f : RunFile) (commands : List (List ℕ)) (s t : SessionState) (answers : List Answer)
    (lines : Option (Vec ℕ Global)) (stopped refused : Bool)
    → Shows s.machine (first_world_of (file_of f)) → Shows s.first (first_world_of (file_of f)) → s.names ≡ (file_of f).names → s.breaks ≡
    [] → s.watch ≡ None → s.course ≡ Some []
    → ((x : Scene) → IsShown s x → (y : Scene) × RunsScript x commands answers y × IsShown t y)
    → AreShown echo commands lines → stopped ≡ any_stopped (length t.machine.jobs) t.machine.jobs
    → refused ≡ (strict && any_refused answers)
    → (y : Scene) × RunsScript (scene_of (file_of f)) commands answers y × AreShown echo commands lines
    × (stopped ≡ any_stopped (length y.world.jobs) y.world.jobs)
    × (refused ≡ (strict && any_refused answers))
ended echo strict f commands s t answers lines stopped refused shows first names breaks watch course follows shown tells denies =
    let kept : IsKept s.course [] = subst (λ (o : Option (List (ℕ × ℕ))). IsKept o []) (sym course) refl in
    let done = follows (scene_of (file_of f)) (record {
      world = shows;
      first = first;
      names = sym names;
      breaks = sym breaks;
      watch = sym
          watch;
      turns = kept;
    }) in
    let P : List Task → Type 0 = λ jobs. stopped ≡ any_stopped (length jobs) jobs in (
      done.0,
      done.1,
      shown,
      subst P (sym done.2.world.jobs) tells,
      denies,
    )
