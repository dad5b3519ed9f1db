-- A text says one file, or has one refusal.
use Rattle.std.proofs.Common.{◌≡◌, ℕ, ◌+◌, Bool, true, false, List, [], ◌∷◌, Option, Some, None, Result, Ok, Err, sym, ap, subst, ◌∙◌}
use Rattle.std.specs.Prelude.{MatchResult}
use Rattle.hex.specs.Hex.{decode_of}
use Rattle.hex.specs.declared.error.FromHexError.{FromHexError}
use Rattle.bpf_insn.specs.declared.instruction.Insn.{Insn}
use Rattle.bpf_insn.specs.declared.error.InsnError.{InsnError}
use Rattle.bpf_insn.specs.Laws.{WordsAreDetermined, RefusalsAreDetermined}
use Rattle.bpf_text.specs.Laws.{NamedTextsAreDetermined}
use Rattle.bpf_lines.specs.Lines.{lines_of, fields_of}
use Rattle.bpf_text.specs.declared.error.TextError.{TextError}
use Rattle.bpf_loader.specs.Laws.{FirstIsDetermined}
use Rattle.bpf_loader.specs.declared.named.Named.{Named}
use Rattle.bpf_loader.specs.Loaded.{Loaded}
use Rattle.bpf_file.specs.declared.error.FileError.{FileError}
use Rattle.bpf_file.specs.declared.error.FileError.TheVariants.{Refused}
use Rattle.bpf_file.specs.declared.error.Reason.{Reason}
use Rattle.bpf_file.specs.declared.error.Reason.TheVariants as reason
use Rattle.bpf_file.specs.File.{File, named_by}
use Rattle.bpf_file.specs.Parts.{Part, State, Between, Within, place_of, nothing}
use Rattle.bpf_text.specs.Symbols.{Table}
use Rattle.bpf_file.specs.Symbols.{names_for}
use Rattle.bpf_file.specs.Programs.{LoadsProgram, Decodes, OfBytes, OfAssembly, refusal_behind, text_of_lines}
use Rattle.bpf_file.specs.Rows.{WordsAdd, AddsLine, placed, program_added}
use Rattle.bpf_file.specs.Statement.{Said, Version, Cpus, Seed, Map, Array, Data, Variable, Put, PutNumbers, Program, Words, Job, statement_of}
use Rattle.bpf_file.specs.Reading.{AddsOrRefuses, FieldsSay, is_end, Belongs, ReadsLine, AreRead}
use Rattle.bpf_file.specs.Laws.{FilesAreDetermined}

-- ---- programs

one_load : FirstIsDetermined → (line : ℕ) (named : Named) (is : List Insn) (r q : Result Loaded FileError) → LoadsProgram line named is r →
    LoadsProgram line named is q → r ≡ q
one_load F line named is (Ok p) (Ok q) (a, s) (b, t) = ap Ok (a ∙ sym b)
one_load F line named is (Ok p) (Err e) (a, s) (why, b, first) = absurd (F.1 named is why s first)
one_load F line named is (Err e) (Ok p) (why, b, first) (a, s) = absurd (F.1 named is why s first)
one_load F line named is (Err e) (Err f) (w, a, h) (v, b, g) =
    ap Err (a ∙ ap (λ x. Refused line (reason.Load x)) (F.0 named is w v h g) ∙ sym b)

-- of instructions, or of another refusal
one_of : {E : Type 0} → FirstIsDetermined → (line : ℕ) (named : Named) (refused : E → FileError) (o : Result (List Insn) E)
    (r q : Result Loaded FileError) → MatchResult o (λ is. LoadsProgram line named is r) (λ e. r ≡ Err (refused e)) → MatchResult o
    (λ is. LoadsProgram line named is q) (λ e. q ≡ Err (refused e)) → r ≡ q
one_of F line named refused (Ok is) r q h g = one_load F line named is r q h g
one_of F line named refused (Err e) r q h g = h ∙ sym g

one_assembly : NamedTextsAreDetermined → FirstIsDetermined → (line : ℕ) (named : Named) (names : Option Table) (text : List ℕ)
    (r q : Result Loaded FileError) → OfAssembly line named names text r → OfAssembly line named names text q → r ≡ q
one_assembly T F line named names text r q (o, a, h) (u, b, g) =
    let M : Result (List Insn) TextError → Type 0 = λ x. MatchResult x (λ is. LoadsProgram line named is q) (λ e. q ≡ Err (refusal_behind line e)) in
    one_of F line named (refusal_behind line) o r q h (subst M (T names text u o b a) g)

one_decoding : WordsAreDetermined → RefusalsAreDetermined → (bytes : List ℕ) (o u : Result (List Insn) InsnError) → Decodes bytes o → Decodes bytes u → o ≡ u
one_decoding W R bytes (Ok is) (Ok js) (s, a) (t, b) = ap Ok (W bytes is js a b)
one_decoding W R bytes (Ok is) (Err e) (s, a) (b, n) = absurd (R.1 bytes is e n s a b)
one_decoding W R bytes (Err e) (Ok is) (b, n) (s, a) = absurd (R.1 bytes is e n s a b)
one_decoding W R bytes (Err e) (Err f) (a, n) (b, m) = ap Err (R.0 bytes e f n m a b)

one_of_bytes : WordsAreDetermined → RefusalsAreDetermined → FirstIsDetermined → (line : ℕ) (named : Named) (bytes : List ℕ)
    (r q : Result Loaded FileError) → OfBytes line named bytes r → OfBytes line named bytes q → r ≡ q
one_of_bytes W R F line named bytes r q (o, a, h) (u, b, g) =
    let M : Result (List Insn) InsnError → Type 0 = λ x. MatchResult x (λ is. LoadsProgram line named is q) (λ e. q ≡ Err (Refused line (reason.Insn e))) in
    one_of F line named (λ e. Refused line (reason.Insn e)) o r q h (subst M (one_decoding W R bytes u o b a) g)

one_by_digits : WordsAreDetermined → RefusalsAreDetermined → FirstIsDetermined → (line : ℕ) (named : Named)
    (d : Result (List ℕ) FromHexError) (r q : Result Loaded FileError) → MatchResult d (λ bytes. OfBytes line named bytes r)
    (λ e. r ≡ Err (Refused line reason.NotHex)) → MatchResult d (λ bytes. OfBytes line named bytes q)
    (λ e. q ≡ Err (Refused line reason.NotHex)) → r ≡ q
one_by_digits W R F line named (Ok bytes) r q h g = one_of_bytes W R F line named bytes r q h g
one_by_digits W R F line named (Err e) r q h g = h ∙ sym g

-- ---- lines

one_of_words : WordsAreDetermined → RefusalsAreDetermined → FirstIsDetermined → (k : Option ℕ) (n : ℕ) (p : Part) (name digits : List ℕ)
    (r q : Result State FileError) → WordsAdd k n p name digits r → WordsAdd k n p name digits q → r ≡ q
one_of_words W R F (Some k) n p name digits r q e f = e ∙ sym f
one_of_words W R F None n p name digits r q (o, a, e) (u, b, f) =
    e ∙ ap (program_added p name) (one_by_digits W R F n (named_by p.file) (decode_of digits) o u a b) ∙ sym f

one_row : WordsAreDetermined → RefusalsAreDetermined → FirstIsDetermined → (n : ℕ) (p : Part) (s : Said) (r q : Result State FileError) →
    AddsLine n p s r → AddsLine n p s q → r ≡ q
one_row W R F n p (Version version) r q e f = e ∙ sym f
one_row W R F n p (Cpus c) r q e f = e ∙ sym f
one_row W R F n p (Seed s) r q e f = e ∙ sym f
one_row W R F n p (Map name h) r q e f = e ∙ sym f
one_row W R F n p (Array name g) r q e f = e ∙ sym f
one_row W R F n p (Data name at digits) r q e f = e ∙ sym f
one_row W R F n p (Variable name array at size) r q e f = e ∙ sym f
one_row W R F n p (Put name key value) r q e f = e ∙ sym f
one_row W R F n p (PutNumbers name key size numbers) r q e f = e ∙ sym f
one_row W R F n p (Program name) r q e f = e ∙ sym f
one_row W R F n p (Words name digits) r q a b = one_of_words W R F (place_of name p.titles) n p name digits r q a b
one_row W R F n p (Job line) r q e f = e ∙ sym f

one_saying : WordsAreDetermined → RefusalsAreDetermined → FirstIsDetermined → (n : ℕ) (p : Part) (w : Result Said Reason)
    (r q : Result State FileError) → AddsOrRefuses n p w r → AddsOrRefuses n p w q → r ≡ q
one_saying W R F n p (Ok s) r q a b = one_row W R F n p s r q a b
one_saying W R F n p (Err why) r q e f = e ∙ sym f

one_of_fields : WordsAreDetermined → RefusalsAreDetermined → FirstIsDetermined → (n : ℕ) (p : Part) (fs : List (List ℕ))
    (r q : Result State FileError) → FieldsSay n p fs r → FieldsSay n p fs q → r ≡ q
one_of_fields W R F n p [] r q e f = e ∙ sym f
one_of_fields W R F n p (g ∷ gs) r q a b = one_saying W R F n p (placed p g (statement_of p.version (g ∷ gs))) r q a b

one_belonging : NamedTextsAreDetermined → FirstIsDetermined → (end : Bool) (p : Part) (from : ℕ) (name : List ℕ) (ls : List (List ℕ))
    (l : List ℕ) (r q : Result State FileError) → Belongs end p from name ls l r → Belongs end p from name ls l q → r ≡ q
one_belonging T F true p from name ls l r q (o, a, e) (u, b, f) =
    e ∙ ap (program_added p name) (one_assembly T F from (named_by p.file) (names_for p) (text_of_lines ls) o u a b) ∙ sym f
one_belonging T F false p from name ls l r q e f = e ∙ sym f

one_reading : WordsAreDetermined → RefusalsAreDetermined → FirstIsDetermined → NamedTextsAreDetermined → (n : ℕ) (s : State) (l : List ℕ)
    (r q : Result State FileError) → ReadsLine n s l r → ReadsLine n s l q → r ≡ q
one_reading W R F T n (Between p) l r q a b = one_of_fields W R F n p (fields_of l) r q a b
one_reading W R F T n (Within p from name ls) l r q a b = one_belonging T F (is_end l) p from name ls l r q a b

-- ---- whole files

abbrev Goes : ℕ → List (List ℕ) → Result File FileError → Result State FileError → Type 0
Goes n ls r t = MatchResult t (λ u. AreRead (n + 1) u ls r) (λ e. r ≡ Err e)

one_more : (n : ℕ) (ls : List (List ℕ)) (r q : Result File FileError) →
    ((v : State) → AreRead (n + 1) v ls r → AreRead (n + 1) v ls q → r ≡ q) → (t : Result State FileError) → Goes n ls r t → Goes n ls q t → r ≡ q
one_more n ls r q more (Ok v) h g = more v h g
one_more n ls r q more (Err e) h g = h ∙ sym g

one_file : WordsAreDetermined → RefusalsAreDetermined → FirstIsDetermined → NamedTextsAreDetermined → (ls : List (List ℕ)) (n : ℕ)
    (s : State) (r q : Result File FileError) → AreRead n s ls r → AreRead n s ls q → r ≡ q
one_file W R F T [] n s r q e f = e ∙ sym f
one_file W R F T (l ∷ ls) n s r q (t, a, h) (u, b, g) =
    one_more n ls r q (λ v x y. one_file W R F T ls (n + 1) v r q x y) t h
    (subst (Goes n ls q) (one_reading W R F T n s l u t b a) g)

pub files_are_determined : WordsAreDetermined → RefusalsAreDetermined → FirstIsDetermined → NamedTextsAreDetermined → FilesAreDetermined
files_are_determined W R F T = λ text r q a b. one_file W R F T (lines_of text) 1 (Between nothing) r q a b
