-- Replies and refusals, put together.
use Rattle.std.proofs.Common.{◌≡◌, ◌⊎◌, ℕ, false, List, Result, Ok, Err, String, Global, inl, inr, sym, subst}
use Rattle.std.specs.Prelude.{IsErrAnd, MatchResult, string_bytes}
use Rattle.bpf_file.specs.Reading.{IsRunFile}
use Rattle.bpf_file.specs.declared.error.FileError.{FileError}
use Rattle.bpf_file.specs.declared.error.FileError.TheVariants as file_error
use Rattle.bpf_replies.specs.Answer.{Replies}
use Rattle.bpf_replies.specs.Programs.{IsAssembled, IsAssembledRun, IsRun}
use Rattle.bpf_replies.specs.Refusals.{file_refusal}
use Rattle.bpf_replies.specs.Running.{RefusesFile}
use Rattle.bpf_replies.specs.declared.refusal.Refusal.{Refusal}
use Rattle.bpf_replies.specs.declared.reply.Reply.{Reply}
use Rattle.bpf_replies.specs.declared.reply.Reply.TheVariants as reply

-- what a `?` returns
pub given : {T E : Type 0} (P : T → Type 0) (Q : E → Type 0) (r : Result T E) (e : E) → IsErrAnd r (λ d. d ≡ e) → Q e → MatchResult r P Q
given P Q (Ok x) e h q = absurd h
given P Q (Err d) e h q = subst Q (sym h) q

-- the reply that a refusal is made of
pub replied : (P : Reply → Type 0) (answered : Result Reply Refusal) (r : Reply) → Replies (λ (x : Reply). r ≡ x) answered → Replies P answered → P r
replied P (Ok x) r same h = subst P (sym same) h
replied P (Err e) r same h = subst P (sym same) h

-- the words that were assembled are run
pub words_run : (budget : ℕ) (context text words : List ℕ) (printed : String Global) (answered : Result Reply Refusal)
    → IsAssembled false text (reply.Text printed) → words ≡ string_bytes printed → Replies (IsRun budget context words) answered
    → Replies (IsAssembledRun budget context text) answered
words_run budget context text words printed (Ok r) assembled same h =
    inr (printed, assembled, subst (λ (bytes : List ℕ). IsRun budget context bytes r) same h)
words_run budget context text words printed (Err e) assembled same h =
    inr (printed, assembled, subst (λ (bytes : List ℕ). IsRun budget context bytes (reply.Refused e)) same h)

-- a run file that isn't read
pub not_read : (text : List ℕ) (e : FileError) → (e ≡ file_error.OutOfMemory) ⊎ IsRunFile text (Err e) → RefusesFile text (file_refusal e)
not_read text (file_error.Refused line why) (inl lacks) = absurd (let wrong : ⊥ = cc in wrong)
not_read text (file_error.Refused line why) (inr said) = said
not_read text file_error.OutOfMemory h = tt
