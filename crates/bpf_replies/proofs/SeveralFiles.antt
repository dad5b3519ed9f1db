-- Files one after the other.
use Rattle.std.proofs.Common.{◌≡◌, ℕ, Bool, ◌+◌, ◌<◌, ◌≤◌, List, ◌∷◌, Option, Some, None, Result, Ok, Err, String, Global, inl, inr, length, get_or}
use Rattle.std.proofs.Common.{drop, map, string_bytes, sym, ap, subst, ◌∙◌}
use Rattle.std.specs.Prelude.{IfOk, IfSome, IsUtf8}
use Rattle.std.proofs.lemmas.List.{drop_more}
use Rattle.bpf_check.specs.Findings.{Raced}
use Rattle.bpf_command.specs.declared.command.CheckOptions.{CheckOptions}
use Rattle.bpf_replies.specs.Input.{RefusesInput}
use Rattle.bpf_replies.specs.Several.{AreTold, IsPart, IsTextPart, Part, refused_part, seen, with_part}
use Rattle.bpf_replies.specs.declared.input.TheConstants.{MAX_INPUT}
use Rattle.bpf_replies.specs.declared.refusal.Refusal.{Refusal}
use Rattle.bpf_replies.specs.declared.several.FilePart.{FilePart}

-- what is made of what was read is made of the file's bytes, where they are known
pub of_file : {A E : Type 0} (file : Option (List ℕ)) (read : List ℕ) (r : Result A E) (P : List ℕ → A → Type 0)
    → IfSome file (λ bytes. read ≡ bytes) → IfOk r (P read) → IfOk r (λ p. IfSome file (λ bytes. P bytes p))
of_file None read (Ok p) P same h = tt
of_file (Some bytes) read (Ok p) P same h = subst (λ (bs : List ℕ). P bs p) same h
of_file file read (Err e) P same h = tt

-- a file whose bytes can't be read is refused
pub of_no_file : {E : Type 0} (Finds : Bool → ℕ → List ℕ → Raced → Type 0) (file : Option (List ℕ)) (o : CheckOptions) (name : List ℕ)
    (before : ℕ) (why : Refusal) (r : Result FilePart E)
    → IfSome file (λ bytes. RefusesInput bytes why) → IfOk r (λ p. seen p ≡ refused_part name why)
    → IfOk r (λ p. IfSome file (λ bytes. IsPart Finds o name before bytes (seen p)))
of_no_file Finds None o name before why (Ok p) refuses is = tt
of_no_file Finds (Some bytes) o name before why (Ok p) refuses is = inl (why, refuses, is)
of_no_file Finds file o name before why (Err e) refuses is = tt

-- bytes that are no text are refused
pub of_no_text : {E : Type 0} (Finds : Bool → ℕ → List ℕ → Raced → Type 0) (o : CheckOptions) (name : List ℕ) (before : ℕ) (bytes : List ℕ)
    (why : Refusal) (r : Result FilePart E)
    → RefusesInput bytes why → IfOk r (λ p. seen p ≡ refused_part name why) → IfOk r (λ p. IsPart Finds o name before bytes (seen p))
of_no_text Finds o name before bytes why (Ok p) refuses is = inl (why, refuses, is)
of_no_text Finds o name before bytes why (Err e) refuses is = tt

-- the part of a text is that of its bytes
pub of_text : {E : Type 0} (Finds : Bool → ℕ → List ℕ → Raced → Type 0) (o : CheckOptions) (name : List ℕ) (before : ℕ) (bytes text : List ℕ)
    (r : Result FilePart E)
    → length bytes ≤ MAX_INPUT → IsUtf8 bytes → text ≡ bytes → IfOk r (λ p. IsTextPart Finds o name before text (seen p))
    → IfOk r (λ p. IsPart Finds o name before bytes (seen p))
of_text Finds o name before bytes text (Ok p) short valid same is =
    inr (short, valid, subst (λ (t : List ℕ). IsTextPart Finds o name before t (seen p)) same is)
of_text Finds o name before bytes text (Err e) short valid same is = tt

-- what is printed of the files from this one on is printed after what is printed of those before it
abbrev pub Follows : (Finds : Bool → ℕ → List ℕ → Raced → Type 0) → CheckOptions → (List ℕ → Option (List ℕ)) → List (String Global) → ℕ →
    (first so_far : Part) → Type 0
Follows Finds o files names i first so_far = (all : Part)
    → AreTold Finds o files (map string_bytes (drop i names)) so_far all
    → AreTold Finds o files (map string_bytes names) first all

pub one_more : (Finds : Bool → ℕ → List ℕ → Raced → Type 0) (o : CheckOptions) (files now : List ℕ → Option (List ℕ))
    (names : List (String Global)) (i : ℕ) (name : String Global) (first so_far after part : Part)
    → i < length names → name ≡ get_or names i name → now ≡ files
    → IfSome (now (string_bytes name)) (λ bytes. IsPart Finds o (string_bytes name) so_far.tests bytes part)
    → after ≡ with_part so_far part
    → Follows Finds o files names i first so_far → Follows Finds o files names (i + 1) first after
one_more Finds o files now names i name first so_far after part inside at same is more follows all told =
    let here : drop i names ≡ name ∷ drop (i + 1) names = drop_more names i name inside ∙ ap (λ (n : String Global). n ∷ drop (i + 1) names) (sym at) in
    let P : (List ℕ → Option (List ℕ)) → Type 0 = λ fs. IfSome (fs (string_bytes name)) (λ bytes. IsPart Finds o (string_bytes name) so_far.tests bytes part) in
    let rest : AreTold Finds o files (map string_bytes (drop (i + 1) names)) (with_part so_far part) all =
    subst (λ (p : Part). AreTold Finds o files (map string_bytes (drop (i + 1) names)) p all) more told in
    follows all (subst (λ (ns : List (String Global)). AreTold Finds o files (map string_bytes ns) so_far all) (sym here) (part, subst P same is, rest))
