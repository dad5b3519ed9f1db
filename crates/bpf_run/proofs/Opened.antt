-- What the text of a file amounts to, and what is done of it.
use Rattle.std.proofs.Common.{◌≡◌, ◌≤◌, ◌<◌, ◌∙◌, inl, inr, Bool, true, false, ℕ, List, [], ◌∷◌, Option, Some, None, length, refl, sym, subst, ap, true≢false}
use Rattle.std.proofs.lemmas.Bool.{or_parts}
use Rattle.std.specs.Prelude.{IfSome, IsUtf8, Vec, Ok, Err, ◌||◌}
use Rattle.std.specs.List.{list_any}
use Rattle.std.specs.declared.alloc.Global.{Global}
use Rattle.bpf_lines.specs.Lines.{lines_of}
use Rattle.bpf_file.specs.File.{File}
use Rattle.bpf_file.specs.Reading.{IsRunFile}
use Rattle.bpf_debug.specs.Session.{SessionState, IsShown}
use Rattle.bpf_replies.specs.Answer.{Prints, stats_of}
use Rattle.bpf_run.specs.Commands.{IsReply}
use Rattle.bpf_replies.specs.Input.{is_unread}
use Rattle.bpf_replies.specs.Input.{is_failed_read}
use Rattle.bpf_replies.specs.Script.{IsScriptOfFile, NoneEnds, ends_file, scene_of}
use Rattle.bpf_run.specs.Conversing.{Holds, IsRefusal, LeavesLines, command_of}
use Rattle.bpf_run.specs.Debugging.{IsOpened}
use Rattle.bpf_run.specs.declared.conversing.Partner.{Partner}
use Rattle.bpf_run.specs.declared.conversing.Partner.TheVariants as partner
use Rattle.bpf_run.specs.declared.debugging.Opening.TheVariants as opening
use Rattle.bpf_replies.specs.declared.input.InputError.{InputError}
use Rattle.bpf_replies.specs.declared.input.InputError.TheVariants as input_error
use Rattle.bpf_replies.specs.declared.input.TheConstants.{MAX_INPUT}
use Rattle.bpf_replies.specs.Running.{RefusesFile}
use Rattle.bpf_replies.specs.declared.refusal.Refusal.{Refusal}
use Rattle.bpf_replies.specs.declared.refusal.Refusal.TheVariants as refusal
use Rattle.bpf_replies.specs.declared.reply.Reply.{Reply}
use Rattle.bpf_replies.specs.declared.reply.Reply.TheVariants as reply
use Rattle.bpf_replies.specs.declared.reply.Status.{Status}
use Rattle.bpf_run.proofs.ReplyLemmas.{unread}

-- ---- whether a line ends the file

pub none_ends : (lines : List (List ℕ)) → list_any ends_file lines ≡ false → NoneEnds lines
none_ends [] e = tt
none_ends (line ∷ lines) e =
    let both = or_parts (ends_file line) (list_any ends_file lines) e in
    (both.0, none_ends lines both.1)

pub some_ends : (lines : List (List ℕ)) → list_any ends_file lines ≡ true → NoneEnds lines → ⊥
some_ends [] e none = true≢false (sym e)
some_ends (line ∷ lines) e none = some_ends lines (subst (λ (ends : Bool). (ends || list_any ends_file lines) ≡ true) none.0 e) none.1

-- ---- what a text amounts to

pub opened_script : (echo strict : Bool) (text : List ℕ) (r : Reply) → list_any ends_file (lines_of text) ≡ true → IsScriptOfFile echo
    strict text r → IsOpened echo strict text (opening.Reply r)
opened_script echo strict text r ends said = (said, λ none. absurd (some_ends (lines_of text) ends none))

pub opened_refusal : (echo strict : Bool) (text : List ℕ) (e : Refusal) → list_any ends_file (lines_of text) ≡ false → RefusesFile text e →
    IsOpened echo strict text (opening.Reply (reply.Refused e))
opened_refusal echo strict text (refusal.File line why) none said = ((text, [], inr (none_ends (lines_of text) none, refl, refl), said), λ n. tt)
opened_refusal echo strict text refusal.OutOfMemory none said = (tt, λ n. tt)
opened_refusal echo strict text e none said = absurd said

pub opened_talk : (echo strict : Bool) (text : List ℕ) (s : SessionState) (f : File) → list_any ends_file (lines_of text) ≡ false →
    IsRunFile text (Ok f) → IsShown s (scene_of f)
    → IsOpened echo strict text (opening.Talk s)
opened_talk echo strict text s f none said shown = (none_ends (lines_of text) none, (f, said, shown))

-- ---- what is done

script_read : (echo strict : Bool) (text : List ℕ) (r : Reply) → IsScriptOfFile echo strict text r → is_unread r ≡ false
script_read echo strict text (reply.Refused (refusal.Input e)) said = absurd said
script_read echo strict text (reply.Refused why) said = refl
script_read echo strict text r said = refl

-- a reply to a text
pub replied : (echo strict : Bool) (text : List ℕ) (r : Reply) (silent : Type 0) (talks : File → Status → Type 0)
    (old new : Option (List ℕ)) (lost : Bool) (s : Status)
    → length text ≤ MAX_INPUT → IsUtf8 text → silent → IsOpened echo strict text (opening.Reply r) → Prints r old new lost s
    → Holds (partner.Debugger echo strict) (Some text) silent talks false old new lost s (stats_of r)
replied echo strict text r silent talks old new lost s short utf8 quiet opened printed =
    inl (quiet, (r, sym (script_read echo strict text r opened.0), (inr (short, utf8, opened.0), opened.1), printed, refl))

-- a conversation
pub talked : (echo strict : Bool) (text : List ℕ) (session : SessionState) (silent : Type 0) (talks : File → Status → Type 0)
    (kept : Option (List ℕ)) (lost : Bool) (s : Status) (stats : List ℕ)
    → length text ≤ MAX_INPUT → IsUtf8 text → lost ≡ false → stats ≡ [] → IsOpened echo strict text (opening.Talk session) →
    ((f : File) → IsShown session (scene_of f) → talks f s)
    → Holds (partner.Debugger echo strict) (Some text) silent talks false kept kept lost s stats
talked echo strict text session silent talks kept lost s stats short utf8 works counts opened held =
    inr (refl, refl, works, counts, (opened.1.0, (short, utf8, opened.0, opened.1.1), held opened.1.0 opened.1.2))

-- states of a file
pub states_talked : (patient races : Bool) (text : List ℕ) (f : File) (silent : Type 0) (talks : File → Status → Type 0)
    (kept : Option (List ℕ)) (lost : Bool) (s : Status) (stats : List ℕ)
    → length text ≤ MAX_INPUT → IsUtf8 text → lost ≡ false → stats ≡ [] → IsRunFile text (Ok f) → talks f s
    → Holds (partner.States patient races) (Some text) silent talks false kept kept lost s stats
states_talked patient races text f silent talks kept lost s stats short utf8 works counts said held =
    inr (refl, refl, works, counts, (f, (short, utf8, tt, said), held))

file_read : (text : List ℕ) (r : Refusal) → RefusesFile text r → is_unread (reply.Refused r) ≡ false
file_read text (refusal.Input e) said = absurd said
file_read text r said = refl

pub states_refused : (patient races : Bool) (text : List ℕ) (r : Refusal) (silent : Type 0) (talks : File → Status → Type 0)
    (old new : Option (List ℕ)) (lost : Bool) (s : Status)
    → length text ≤ MAX_INPUT → IsUtf8 text → silent → RefusesFile text r → Prints (reply.Refused r) old new lost s
    → Holds (partner.States patient races) (Some text) silent talks false old new lost s (stats_of (reply.Refused r))
states_refused patient races text r silent talks old new lost s short utf8 quiet refused printed =
    inl (quiet, (reply.Refused r, sym (file_read text r refused), (inr (short, utf8, refused), λ some. tt), printed, refl))

-- states of a file on CPUs with store buffers
pub buffer_states_talked : (patient : Bool) (text : List ℕ) (f : File) (silent : Type 0) (talks : File → Status → Type 0)
    (kept : Option (List ℕ)) (lost : Bool) (s : Status) (stats : List ℕ)
    → length text ≤ MAX_INPUT → IsUtf8 text → lost ≡ false → stats ≡ [] → IsRunFile text (Ok f) → talks f s
    → Holds (partner.BufferStates patient) (Some text) silent talks false kept kept lost s stats
buffer_states_talked patient text f silent talks kept lost s stats short utf8 works counts said held =
    inr (refl, refl, works, counts, (f, (short, utf8, tt, said), held))

pub buffer_states_refused : (patient : Bool) (text : List ℕ) (r : Refusal) (silent : Type 0) (talks : File → Status → Type 0)
    (old new : Option (List ℕ)) (lost : Bool) (s : Status)
    → length text ≤ MAX_INPUT → IsUtf8 text → silent → RefusesFile text r → Prints (reply.Refused r) old new lost s
    → Holds (partner.BufferStates patient) (Some text) silent talks false old new lost s (stats_of (reply.Refused r))
buffer_states_refused patient text r silent talks old new lost s short utf8 quiet refused printed =
    inl (quiet, (reply.Refused r, sym (file_read text r refused), (inr (short, utf8, refused), λ some. tt), printed, refl))

-- bytes that are no text
pub not_text : (p : Partner) (bytes : List ℕ) (silent : Type 0) (talks : File → Status → Type 0) (old new : Option (List ℕ)) (lost : Bool) (s : Status)
    → length bytes ≤ MAX_INPUT → (IsUtf8 bytes → ⊥) → silent → Prints (reply.Refused refusal.NotText) old new lost s
    → Holds p (Some bytes) silent talks false old new lost s []
not_text p bytes silent talks old new lost s short bad quiet printed =
    inl (quiet, (reply.Refused refusal.NotText, refl, (inl (refusal.NotText, refl, (short, bad)), λ none. tt), printed, refl))

-- a file whose bytes may not be known
known : (p : Partner) (input : Option (List ℕ)) (bytes : List ℕ) (silent : Type 0) (talks : File → Status → Type 0) (failed : Bool)
    (old new : Option (List ℕ)) (lost : Bool) (s : Status) (stats : List ℕ)
    → IfSome input (λ whole. bytes ≡ whole) → Holds p (Some bytes) silent talks failed old new lost s stats → Holds p input silent talks
    failed old new lost s stats
known p None bytes silent talks failed old new lost s stats same (inl (quiet, (r, reads, told, printed, counts))) = inl (quiet, (r, reads, tt, printed, counts))
known p None bytes silent talks failed old new lost s stats same (inr (reads, kept, works, counts, (f, said, held))) = inr
    (reads, kept, works, counts, (f, tt, held))
known p (Some input) bytes silent talks failed old new lost s stats same done =
    subst (λ (t : List ℕ). Holds p (Some t) silent talks failed old new lost s stats) same done

pub was_read : (p : Partner) (input : Option (List ℕ)) (bytes : List ℕ) (silent : Type 0) (talks : File → Status → Type 0) (failed : Bool)
    (old new : Option (List ℕ)) (lost : Bool) (s : Status) (stats : List ℕ)
    → failed ≡ false → IfSome input (λ whole. bytes ≡ whole) → Holds p (Some bytes) silent talks false old new lost s stats → Holds p input
    silent talks failed old new lost s stats
was_read p input bytes silent talks failed old new lost s stats reads same done =
    subst (λ (b : Bool). Holds p input silent talks b old new lost s stats) (sym reads) (known p input bytes silent talks false old new lost s stats same done)

-- a file that wasn't read
failed_alike : (e : InputError) → is_failed_read {T = Vec ℕ Global} (Err e) ≡ is_unread (reply.Refused (refusal.Input e))
failed_alike input_error.Unread = refl
failed_alike input_error.TooLong = refl
failed_alike input_error.OutOfMemory = refl

refused_read : (p : Partner) (input : Option (List ℕ)) (e : InputError) → IfSome input (λ bytes. IsReply (command_of p) bytes (reply.Refused (refusal.Input e)))
    → IfSome input (λ bytes. IsReply (command_of p) bytes (reply.Refused (refusal.Input e)) ×
    (LeavesLines p bytes → IsRefusal (reply.Refused (refusal.Input e))))
refused_read p None e h = tt
refused_read p (Some bytes) e h = (h, λ none. tt)

pub not_read : (p : Partner) (input : Option (List ℕ)) (e : InputError) (r : Reply) (silent : Type 0) (talks : File → Status → Type 0)
    (failed : Bool) (old new : Option (List ℕ)) (lost : Bool) (s : Status)
    → (e ≡ input_error.TooLong → IfSome input (λ bytes. MAX_INPUT < length bytes)) → failed ≡ is_failed_read {T = Vec ℕ Global} (Err e) → silent
    → r ≡ reply.Refused (refusal.Input e) → Prints (reply.Refused (refusal.Input e)) old new lost s
    → Holds p input silent talks failed old new lost s (stats_of r)
not_read p input e r silent talks failed old new lost s long fails quiet same printed =
    inl (
      quiet,
      (
        reply.Refused (refusal.Input e),
        fails ∙ failed_alike e,
        refused_read p input e (unread input (command_of p) e long),
        printed,
        ap stats_of same,
      ),
    )
