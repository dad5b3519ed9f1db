-- A program's assembly, as lines of the file.
use Rattle.std.proofs.Common.{◌≡◌, ℕ, ◌+◌, add-zero, Bool, true, false, List, [], ◌∷◌, ◌++◌, length, append_assoc, append-nil, Option}
use Rattle.std.proofs.Common.{Result, Ok, Err, refl, sym, subst, arith}
use Rattle.std.specs.Prelude.{MatchResult}
use Rattle.bpf_file.specs.declared.error.FileError.{FileError}
use Rattle.bpf_file.specs.declared.error.FileError.TheVariants.{Refused, OutOfMemory}
use Rattle.bpf_file.specs.declared.error.Reason.{Reason}
use Rattle.bpf_file.specs.declared.error.Reason.TheVariants as reason
use Rattle.bpf_file.specs.File.{File}
use Rattle.bpf_file.specs.Parts.{Part, State, Between, Within}
use Rattle.bpf_file.specs.Programs.{text_of_lines}
use Rattle.bpf_file.specs.Reading.{is_end, FieldsSay, Belongs, AreRead}
use Rattle.bpf_file.specs.Private.Cuts.{AreOpen, IsProgramCut}
use Rattle.bpf_file.specs.Private.Drafts.{Ends, ReadsOnFrom}
use Rattle.bpf_file.specs.declared.assembly.Assembly.{Assembly}
use Rattle.bpf_lines.specs.Lines.{lines_of, lines_behind, fields_of}
use Rattle.std.specs.Option.{option_copied}
use denote.Ref.{Bor}

-- what follows the n-th line, where it led there
abbrev pub Follows : ℕ → List (List ℕ) → Result File FileError → Result State FileError → Type 0
Follows n ls o t = MatchResult t (λ u. AreRead (n + 1) u ls o) (λ e. o ≡ Err e)

-- an open program goes on
go_on : (n : ℕ) (p : Part) (from : ℕ) (name : List ℕ) (lines : List (List ℕ)) (l : List ℕ) (ls : List (List ℕ)) (o : Result File FileError)
    → is_end l ≡ false → AreRead (n + 1) (Within p from name (lines ++ l ∷ [])) ls o → AreRead n (Within p from name lines) (l ∷ ls) o
go_on n p from name lines l ls o e h =
    let t : Result State FileError = Ok (Within p from name (lines ++ l ∷ [])) in
    let B : Bool → Type 0 = λ b. Belongs b p from name lines l t in
    (t, subst B (sym e) refl, h)

-- it ends
ends : (n : ℕ) (p : Part) (from : ℕ) (name : List ℕ) (lines : List (List ℕ)) (l : List ℕ) (ls : List (List ℕ)) (o : Result File FileError)
    (t : Result State FileError) → is_end l ≡ true → Ends from p name (text_of_lines lines) t → Follows n ls o t → AreRead n
    (Within p from name lines) (l ∷ ls) o
ends n p from name lines l ls o t e made h =
    let B : Bool → Type 0 = λ b. Belongs b p from name lines l t in
    (t, subst B (sym e) made, h)

-- its lines up to the end
pub ended : (body : List (List ℕ)) (n : ℕ) (p : Part) (from : ℕ) (name : List ℕ) (lines : List (List ℕ)) (l : List ℕ) (ls : List (List ℕ))
    (o : Result File FileError) (t : Result State FileError) → AreOpen body → is_end l ≡ true → Ends from p name
    (text_of_lines (lines ++ body)) t → Follows (n + length body) ls o t → AreRead n (Within p from name lines) (body ++ l ∷ ls) o
ended [] n p from name lines l ls o t a e made h =
    let E : List (List ℕ) → Type 0 = λ bs. Ends from p name (text_of_lines bs) t in
    let F : ℕ → Type 0 = λ k. Follows k ls o t in
    ends n p from name lines l ls o t e (subst E (append-nil lines) made) (subst F (add-zero n) h)
ended (b ∷ bs) n p from name lines l ls o t a e made h =
    let E : List (List ℕ) → Type 0 = λ cs. Ends from p name (text_of_lines cs) t in
    let F : ℕ → Type 0 = λ k. Follows k ls o t in
    let counted : n + length (b ∷ bs) ≡ (n + 1) + length bs = omega arith in
    go_on n p from name lines b (bs ++ l ∷ ls) o a.0
    (ended bs (n + 1) p from name (lines ++ b ∷ []) l ls o t a.1 e
    (subst E (sym (append_assoc lines (b ∷ []) bs)) made) (subst F counted h))

-- no line ends it
pub unended : (body : List (List ℕ)) (n : ℕ) (p : Part) (from : ℕ) (name : List ℕ) (lines : List (List ℕ)) → AreOpen body → AreRead n
    (Within p from name lines) body (Err (Refused from reason.NoEnd))
unended [] n p from name lines a = refl
unended (b ∷ bs) n p from name lines a =
    go_on n p from name lines b bs _ a.0 (unended bs (n + 1) p from name (lines ++ b ∷ []) a.1)

-- ---- what the reader's functions answer

pub section_read : (p q : Part) (line : ℕ) (name text : List ℕ) (a : Assembly) (o : Result File FileError) → IsProgramCut text a → Ends line
    p name a.text.now (Ok (Between q)) → AreRead (line + a.lines + 2) (Between q) (lines_behind (option_copied a.rest)) o → AreRead
    (line + 1) (Within p line name []) (lines_of text) o
section_read p q line name text a o c made h =
    let E : List ℕ → Type 0 = λ t. Ends line p name t (Ok (Between q)) in
    let F : ℕ → Type 0 = λ k. AreRead k (Between q) (lines_behind (option_copied a.rest)) o in
    let L : List (List ℕ) → Type 0 = λ ls. AreRead (line + 1) (Within p line name []) ls o in
    let counted : line + a.lines + 2 ≡ (line + 1) + length c.body + 1 = let n = c.count in omega (arith, n) in
    subst L (sym c.parts)
    (ended c.body (line + 1) p line name [] c.last _ o (Ok (Between q)) c.before c.ended
    (subst E c.assembly made) (subst F counted h))

pub section_refused : (p : Part) (line : ℕ) (name text : List ℕ) (a : Assembly) (e : FileError) → IsProgramCut text a → Ends line p name
    a.text.now (Err e) → AreRead (line + 1) (Within p line name []) (lines_of text) (Err e)
section_refused p line name text a e c made =
    let E : List ℕ → Type 0 = λ t. Ends line p name t (Err e) in
    let L : List (List ℕ) → Type 0 = λ ls. AreRead (line + 1) (Within p line name []) ls (Err e) in
    subst L (sym c.parts)
    (ended c.body (line + 1) p line name [] c.last _ (Err e) (Err e) c.before c.ended
    (subst E c.assembly made) refl)

pub section_unended : (p : Part) (line : ℕ) (name text : List ℕ) → AreOpen (lines_of text) → AreRead (line + 1) (Within p line name [])
    (lines_of text) (Err (Refused line reason.NoEnd))
section_unended p line name text a = unended (lines_of text) (line + 1) p line name [] a

-- one line by its fields, and what follows it
line_read : (n : ℕ) (p : Part) (text first : List ℕ) (behind : Option (List ℕ)) (fs : List (List ℕ)) (t : Result State FileError)
    (o : Result File FileError) → lines_of text ≡ first ∷ lines_behind behind → fs ≡ fields_of first → FieldsSay n p fs t → Follows n
    (lines_behind behind) o t → AreRead n (Between p) (lines_of text) o
line_read n p text first behind fs t o e f said h =
    let L : List (List ℕ) → Type 0 = λ ls. AreRead n (Between p) ls o in
    let S : List (List ℕ) → Type 0 = λ gs. FieldsSay n p gs t in
    subst L (sym e) (t, subst S f said, h)

pub goes_line : (n : ℕ) (p q : Part) (text first : List ℕ) (behind : Option (Bor (List ℕ))) (fs : List (List ℕ)) → lines_of text ≡ first ∷
    lines_behind (option_copied behind) → fs ≡ fields_of first → FieldsSay n p fs (Ok (Between q)) → ReadsOnFrom n (Between p)
    (lines_of text) q (Ok (n + 1, behind))
goes_line n p q text first behind fs e f said = λ o h. line_read n p text first (option_copied behind) fs (Ok (Between q)) o e f said h

pub goes_refused : (n m : ℕ) (why : Reason) (p q : Part) (text first : List ℕ) (behind : Option (List ℕ)) (fs : List (List ℕ)) → lines_of
    text ≡ first ∷ lines_behind behind → fs ≡ fields_of first → FieldsSay n p fs (Err (Refused m why)) → ReadsOnFrom n (Between p)
    (lines_of text) q (Err (Refused m why))
goes_refused n m why p q text first behind fs e f said = line_read n p text first behind fs (Err (Refused m why)) _ e f said refl

pub goes_section : (n : ℕ) (p q s : Part) (name text first : List ℕ) (behind : Option (List ℕ)) (fs : List (List ℕ))
    (r : Result (ℕ × Option (Bor (List ℕ))) FileError) → lines_of text ≡ first ∷ lines_behind behind → fs ≡ fields_of first → FieldsSay n p
    fs (Ok (Within q n name [])) → ReadsOnFrom (n + 1) (Within q n name []) (lines_behind behind) s r → ReadsOnFrom n (Between p) (lines_of text) s r
goes_section n p q s name text first behind fs (Ok r) e f said g = λ o h. line_read n p text first behind fs (Ok (Within q n name [])) o e f said (g o h)
goes_section n p q s name text first behind fs (Err OutOfMemory) e f said g = tt
goes_section n p q s name text first behind fs (Err (Refused m why)) e f said g = line_read n p text first behind fs (Ok (Within q n name [])) _ e f said g
