-- What `debug --x86` replies, put together.
use Rattle.std.proofs.Common.{Ok, Err, ◌≡◌, ◌∙◌, ◌⊎◌, inl, inr, ℕ, List, [], length, Bool, false, Option, Some, None, refl, sym, ap, subst}
use Rattle.std.specs.Prelude.{◌&&◌, Vec, nat_lt}
use Rattle.std.specs.declared.alloc.Global.{Global}
use Rattle.bpf_shared.specs.Shape.{Shape}
use Rattle.bpf_plain.specs.PlainStore.{Contents, has_cpu}
use Rattle.bpf_plain.specs.Alike.{IsSameShape}
use Rattle.bpf_cpu.specs.Task.{Task}
use Rattle.bpf_machine.specs.Machine.{MachineState, Shows}
use Rattle.bpf_machine.specs.Schedule.{World}
use Rattle.bpf_x86.specs.Machine.{drained}
use Rattle.bpf_buffering.specs.Search.{ShowsX86}
use Rattle.bpf_jobs.specs.Printed.{any_stopped}
use Rattle.bpf_file.specs.declared.error.FileError.{FileError}
use Rattle.bpf_file.specs.declared.error.FileError.TheVariants as file_error
use Rattle.bpf_file.specs.declared.file.RunFile.{RunFile}
use Rattle.bpf_file.specs.File.{file_of}
use Rattle.bpf_file.specs.Reading.{IsRunFile}
use Rattle.bpf_debug.specs.Course.{IsKept}
use Rattle.bpf_debug.specs.Origin.{IsOfShape}
use Rattle.bpf_debug.specs.Script.{Answer}
use Rattle.bpf_buffer_debug.specs.Session.{SessionState, Scene, IsShown}
use Rattle.bpf_buffer_debug.specs.Script.{RunsScript, ShowsScene}
use Rattle.bpf_replies.specs.Refusals.{file_refusal}
use Rattle.bpf_replies.specs.Script.{AreShown, IsCut, any_refused, first_world_of}
use Rattle.bpf_replies.specs.BufferScript.{HasStopped, IsBufferDebugReply, IsBufferScriptOfFile, buffer_scene_of}
use Rattle.bpf_replies.specs.declared.reply.Reply.{Reply}
use Rattle.bpf_replies.specs.declared.reply.Reply.TheVariants as reply

-- a store of the machine's shape
pub same_shape : (h : Shape) (m : MachineState) (w : World) (p : Contents) → Shows m w → w.store.shape ≡ h → IsOfShape h p → IsSameShape m.store p
same_shape h m w p shows shape made =
    let cpus : (c : ℕ) → has_cpu m.store c ≡ nat_lt c h.cpus = λ c. ap (λ (n : ℕ). nat_lt c n) (sym shows.store.maps.cpus ∙ ap (λ (s : Shape). s.cpus) shape) in
    (λ c. made.1 c ∙ sym (cpus c), made.0 ∙ (sym shape ∙ shows.store.shape))

-- a session at its beginning
pub opened : (s : SessionState) (f : RunFile) → ShowsX86 s.machine (drained (first_world_of (file_of f))) → s.first ≡ s.machine
    → s.names ≡ (file_of f).names → s.breaks ≡ [] → s.watch ≡ None → s.course ≡ Some [] → s.lost ≡ false → IsShown s (buffer_scene_of (file_of f))
opened s f shows first names breaks watch course kept = record {
  kept = kept;
  here = shows;
  first = subst (λ m. ShowsX86 m (drained (first_world_of (file_of f)))) (sym first) shows;
  names = sym names;
  breaks = sym breaks;
  watch = sym watch;
  moves = subst (λ (o : Option (List (ℕ × ℕ))). IsKept o []) (sym course) refl;
}

-- the reply to a file that was read is one to the input that it was cut off
pub of_file : (echo strict : Bool) (input file : List ℕ) (commands : List (List ℕ)) (f : RunFile) (r : Reply) → IsCut input file commands →
    IsRunFile file (Ok (file_of f))
    → IsBufferDebugReply echo strict f commands r → IsBufferScriptOfFile echo strict input r
of_file echo strict input file commands f (reply.Script answers lines stopped refused) cut said h =
    (file, commands, file_of f, h.0, cut, said, h.1, h.2, h.3, h.4)
of_file echo strict input file commands f (reply.Refused r) cut said h = absurd h
of_file echo strict input file commands f (reply.Ended outcome) cut said h = absurd h
of_file echo strict input file commands f (reply.Text text) cut said h = absurd h
of_file echo strict input file commands f (reply.Jobs text stopped) cut said h = absurd h
of_file echo strict input file commands f (reply.Counted text stopped stats) cut said h = absurd h
of_file echo strict input file commands f (reply.Outcomes text stopped all) cut said h = absurd h
of_file echo strict input file commands f (reply.NoOutcome text all) cut said h = absurd h
of_file echo strict input file commands f (reply.Several text refused unmet told) cut said h = absurd h

-- that of a file that isn't read
pub of_no_file : (echo strict : Bool) (input file : List ℕ) (commands : List (List ℕ)) (e : FileError) → IsCut input file commands →
    (e ≡ file_error.OutOfMemory) ⊎ IsRunFile file (Err e)
    → IsBufferScriptOfFile echo strict input (reply.Refused (file_refusal e))
of_no_file echo strict input file commands (file_error.Refused line why) cut (inl lacks) = absurd (let wrong : ⊥ = cc in wrong)
of_no_file echo strict input file commands (file_error.Refused line why) cut (inr said) = (file, commands, cut, said)
of_no_file echo strict input file commands file_error.OutOfMemory cut h = tt

-- what is printed of the machine in the end
stopped_in : (t : SessionState) (y : Option Scene) (stopped : Bool) → ShowsScene t y → stopped ≡ any_stopped (length t.machine.machine.jobs)
    t.machine.machine.jobs → HasStopped y stopped
stopped_in t None stopped shown tells = tt
stopped_in t (Some y) stopped shown tells = subst (λ (jobs : List Task). stopped ≡ any_stopped (length jobs) jobs) (sym shown.here.world.jobs) tells

pub ended : (echo strict : Bool) (f : RunFile) (commands : List (List ℕ)) (s t : SessionState) (answers : List Answer)
    (lines : Option (Vec ℕ Global)) (stopped refused : Bool) → IsShown s (buffer_scene_of (file_of f))
    → ((x : Option Scene) → ShowsScene s x → (y : Option Scene) × RunsScript x commands answers y × ShowsScene t y)
    → AreShown echo commands lines → stopped ≡ any_stopped (length t.machine.machine.jobs) t.machine.machine.jobs
    → refused ≡ (strict && any_refused answers)
    → (y : Option Scene) × RunsScript (Some (buffer_scene_of (file_of f))) commands answers y × AreShown echo commands lines
    × HasStopped y stopped × (refused ≡ (strict && any_refused answers))
ended echo strict f commands s t answers lines stopped refused opens follows shown tells denies =
    let done = follows (Some (buffer_scene_of (file_of f))) opens in
    (done.0, done.1, shown, stopped_in t done.0 stopped done.2 tells, denies)
