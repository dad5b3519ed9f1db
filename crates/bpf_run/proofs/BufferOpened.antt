-- What the text of a file amounts to, and what is done of it, with store buffers.
use Rattle.std.proofs.Common.{◌≡◌, ◌≤◌, inl, inr, Bool, true, false, ℕ, List, [], Option, Some, length, refl, sym}
use Rattle.std.specs.Prelude.{IsUtf8, Ok}
use Rattle.std.specs.List.{list_any}
use Rattle.bpf_lines.specs.Lines.{lines_of}
use Rattle.bpf_file.specs.File.{File}
use Rattle.bpf_file.specs.Reading.{IsRunFile}
use Rattle.bpf_buffer_debug.specs.Session.{SessionState, IsShown}
use Rattle.bpf_replies.specs.Answer.{Prints, stats_of}
use Rattle.bpf_replies.specs.BufferScript.{IsBufferScriptOfFile, buffer_scene_of}
use Rattle.bpf_replies.specs.Input.{is_unread}
use Rattle.bpf_replies.specs.Running.{RefusesFile}
use Rattle.bpf_replies.specs.Script.{ends_file}
use Rattle.bpf_replies.specs.declared.input.TheConstants.{MAX_INPUT}
use Rattle.bpf_replies.specs.declared.refusal.Refusal.{Refusal}
use Rattle.bpf_replies.specs.declared.refusal.Refusal.TheVariants as refusal
use Rattle.bpf_replies.specs.declared.reply.Reply.{Reply}
use Rattle.bpf_replies.specs.declared.reply.Reply.TheVariants as reply
use Rattle.bpf_replies.specs.declared.reply.Status.{Status}
use Rattle.bpf_run.specs.BufferDebugging.{IsBufferOpened}
use Rattle.bpf_run.specs.Conversing.{Holds}
use Rattle.bpf_run.specs.declared.buffer_debugging.Opening.TheVariants as opening
use Rattle.bpf_run.specs.declared.conversing.Partner.TheVariants as partner
use Rattle.bpf_run.proofs.Opened.{none_ends, some_ends}

-- ---- what a text amounts to
pub opened_script : (echo strict : Bool) (text : List ℕ) (r : Reply) → list_any ends_file (lines_of text) ≡ true → IsBufferScriptOfFile echo
    strict text r → IsBufferOpened echo strict text (opening.Reply r)
opened_script echo strict text r ends said = (said, λ none. absurd (some_ends (lines_of text) ends none))

pub opened_refusal : (echo strict : Bool) (text : List ℕ) (e : Refusal) → list_any ends_file (lines_of text) ≡ false → RefusesFile text e →
    IsBufferOpened echo strict text (opening.Reply (reply.Refused e))
opened_refusal echo strict text (refusal.File line why) none said = ((text, [], inr (none_ends (lines_of text) none, refl, refl), said), λ n. tt)
opened_refusal echo strict text refusal.OutOfMemory none said = (tt, λ n. tt)
opened_refusal echo strict text e none said = absurd said

pub opened_talk : (echo strict : Bool) (text : List ℕ) (s : SessionState) (f : File) → list_any ends_file (lines_of text) ≡ false →
    IsRunFile text (Ok f) → IsShown s (buffer_scene_of f)
    → IsBufferOpened echo strict text (opening.Talk s)
opened_talk echo strict text s f none said shown = (none_ends (lines_of text) none, (f, said, shown))

-- ---- what is done
script_read : (echo strict : Bool) (text : List ℕ) (r : Reply) → IsBufferScriptOfFile echo strict text r → is_unread r ≡ false
script_read echo strict text (reply.Refused (refusal.Input e)) said = absurd said
script_read echo strict text (reply.Refused why) said = refl
script_read echo strict text r said = refl

-- a reply to a text
pub replied : (echo strict : Bool) (text : List ℕ) (r : Reply) (silent : Type 0) (talks : File → Status → Type 0)
    (old new : Option (List ℕ)) (lost : Bool) (s : Status)
    → length text ≤ MAX_INPUT → IsUtf8 text → silent → IsBufferOpened echo strict text (opening.Reply r) → Prints r old new lost s
    → Holds (partner.BufferDebugger echo strict) (Some text) silent talks false old new lost s (stats_of r)
replied echo strict text r silent talks old new lost s short utf8 quiet opened printed =
    inl (quiet, (r, sym (script_read echo strict text r opened.0), (inr (short, utf8, opened.0), opened.1), printed, refl))

-- a conversation
pub talked : (echo strict : Bool) (text : List ℕ) (session : SessionState) (silent : Type 0) (talks : File → Status → Type 0)
    (kept : Option (List ℕ)) (lost : Bool) (s : Status) (stats : List ℕ)
    → length text ≤ MAX_INPUT → IsUtf8 text → lost ≡ false → stats ≡ [] → IsBufferOpened echo strict text (opening.Talk session) →
    ((f : File) → IsShown session (buffer_scene_of f) → talks f s)
    → Holds (partner.BufferDebugger echo strict) (Some text) silent talks false kept kept lost s stats
talked echo strict text session silent talks kept lost s stats short utf8 works counts opened held =
    inr (refl, refl, works, counts, (opened.1.0, (short, utf8, opened.0, opened.1.1), held opened.1.0 opened.1.2))
