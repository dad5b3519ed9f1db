-- States that are read from files, one file after the other, and what is replied to a call.
use Rattle.std.proofs.Common.{◌≡◌, ℕ, ◌+◌, ◌++◌, Global, List, Option, Some, None, String, length, map, string_bytes, sym, subst, add-one}
use Rattle.std.proofs.lemmas.List.{length-map}
use Rattle.std.specs.Prelude.{IfSome, slice_get}
use Rattle.clap.specs.Words.{Text}
use Rattle.bpf_command.specs.declared.command.SpreadOptions.{SpreadOptions}
use Rattle.bpf_expand.specs.declared.calls.Called.{Called}
use Rattle.bpf_expand.specs.declared.calls.Called.TheVariants as called
use Rattle.bpf_expand.specs.declared.parts.Parted.{Parted}
use Rattle.bpf_expand.specs.Parts.{IfParted, records_of}
use Rattle.bpf_replies.specs.declared.reply.Reply.{Reply}
use Rattle.bpf_replies.specs.declared.reply.Reply.TheVariants as reply
use Rattle.bpf_run.specs.Spreading.{AreAllRead, AreRead, IsSpread, IsStop}

pub one_more_read : (files : Text → Option (List ℕ)) (names : List Text) (n : ℕ) (name : Text) (before more states : List (List ℕ))
    → slice_get names n ≡ Some name → AreRead files names n before → IfSome (files name) (λ bytes. bytes ≡ records_of more)
    → states ≡ before ++ more → AreRead files names (n + 1) states
one_more_read files names n name before more states at far is joined =
    subst (λ (k : ℕ). AreRead files names k states) (sym (add-one n)) (name, at, before, more, far, is, joined)

-- all of the files are read, which are those at another time
pub all_read : (files now : Text → Option (List ℕ)) (listed names : List (String Global)) (states : List (List ℕ)) → now ≡ files → listed ≡ names
    → AreRead now (map string_bytes listed) (length listed) states → AreAllRead files (map string_bytes names) states
all_read files now listed names states still same read =
    subst (λ (f : Text → Option (List ℕ)). AreAllRead f (map string_bytes names) states) still
    (subst (λ (l : List (String Global)). AreAllRead now (map string_bytes l) states) same
    (subst (λ (n : ℕ). AreRead now (map string_bytes listed) n states) (sym (length-map listed string_bytes)) read))

-- what a call's parts are
pub at_parted : (o : Called) (P : Parted → Type 0) (made : Parted) → o ≡ called.Parted made → IfParted o P → P made
at_parted o P made is holds = subst (λ (x : Called). IfParted x P) is holds

-- a refusal is a reply to any call
pub stop_is : (has_made : Text → List ℕ → Type 0) (files : Text → Option (List ℕ)) (options : SpreadOptions) (input : Option (List ℕ))
    (r : Reply) → IsStop r → IsSpread has_made files options input r
stop_is has_made files options input (reply.Ended o) is = is
stop_is has_made files options input (reply.Text printed) is = absurd is
stop_is has_made files options input (reply.Jobs a b) is = is
stop_is has_made files options input (reply.Counted a b c) is = is
stop_is has_made files options input (reply.Script a b c d) is = is
stop_is has_made files options input (reply.Outcomes a b c) is = is
stop_is has_made files options input (reply.Several a b c d) is = is
stop_is has_made files options input (reply.NoOutcome a b) is = is
stop_is has_made files options input (reply.Refused refusal) is = is

-- what is replied to bytes is replied to the input that they are, where that can be read
pub input_is : (has_made : Text → List ℕ → Type 0) (files : Text → Option (List ℕ)) (options : SpreadOptions) (input : Option (List ℕ))
    (bytes : List ℕ) (r : Reply) → IfSome input (λ all. bytes ≡ all) → IsSpread has_made files options (Some bytes) r
    → IsSpread has_made files options input r
input_is has_made files options (Some all) bytes r same is = subst (λ (b : List ℕ). IsSpread has_made files options (Some b) r) same is
input_is has_made files options None bytes (reply.Ended o) same is = is
input_is has_made files options None bytes (reply.Text printed) same (f, run, read, reads, seen, known, made, parted, all, origins, text) =
    (f, tt, read, reads, seen, known, made, parted, all, origins, text)
input_is has_made files options None bytes (reply.Jobs a b) same is = is
input_is has_made files options None bytes (reply.Counted a b c) same is = is
input_is has_made files options None bytes (reply.Script a b c d) same is = is
input_is has_made files options None bytes (reply.Outcomes a b c) same is = is
input_is has_made files options None bytes (reply.Several a b c d) same is = is
input_is has_made files options None bytes (reply.NoOutcome a b) same is = is
input_is has_made files options None bytes (reply.Refused refusal) same is = is
