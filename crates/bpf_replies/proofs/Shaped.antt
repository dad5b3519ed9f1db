-- Every file that a text says has a shape that a store may have.
use Rattle.std.proofs.Common.{◌≡◌, ℕ, ◌+◌, ◌-◌, ◌/◌, ◌≤◌, ◌==◌, nat_le, nat_lt, Bool, true, false, if◌then◌else◌, List, [], ◌∷◌, length}
use Rattle.std.proofs.Common.{Option, Some, None, Result, Ok, Err, sym, subst, arith}
use Rattle.std.proofs.lemmas.Bool.Decides.{nat_tests}
use Rattle.std.specs.Prelude.{MatchResult, slice_get}
use Rattle.hex.specs.Hex.{decode_of}
use Rattle.hex.specs.declared.error.FromHexError.{FromHexError}
use Rattle.bpf_base.specs.Bytes.{low_bytes}
use Rattle.bpf_shared.specs.declared.events.Size.{Size}
use Rattle.bpf_shared.specs.declared.shapes.ArrayShape.{ArrayShape}
use Rattle.bpf_shared.specs.declared.shapes.MapShape.{MapShape}
use Rattle.bpf_shared.specs.Shape.{IsShape}
use Rattle.bpf_pairs.specs.Pairs.{Pair, has_key}
use Rattle.bpf_shared.proofs.Refusing.{outside_false, maps_in_range, arrays_in_range}
use Rattle.bpf_lines.specs.Lines.{lines_of, fields_of}
use Rattle.bpf_lines.specs.Words.{written_number}
use Rattle.bpf_file.specs.Contents.{up_to}
use Rattle.bpf_loader.specs.Loaded.{Loaded}
use Rattle.bpf_cpu.specs.declared.input.Input.{Input}
use Rattle.bpf_file.specs.declared.error.FileError.{FileError}
use Rattle.bpf_file.specs.declared.error.FileError.TheVariants.{Refused}
use Rattle.bpf_file.specs.declared.error.Reason.{Reason}
use Rattle.bpf_file.specs.declared.error.Reason.TheVariants as reason
use Rattle.bpf_file.specs.Form.{is_there}
use Rattle.bpf_file.specs.Statement.{Said, Version, Cpus, Seed, Map, Array, Data, Variable, Put, PutNumbers, Program, Words, Job, statement_of, JobSaid}
use Rattle.bpf_file.specs.File.{File, shape_of}
use Rattle.bpf_file.specs.Parts.{Part, State, Between, Within, nothing, place_of, array_place, with_cpus, with_map, with_array, with_pair, with_variable}
use Rattle.bpf_file.specs.Programs.{text_of_lines}
use Rattle.bpf_file.specs.Rows.{unless, cpus_refusal, map_refusal, array_refusal, data_refusal, data_laid, or_refused, data_added}
use Rattle.bpf_file.specs.Rows.{name_refusal, place_refusal, variable_added, is_sized, is_numbered, pair_refusal, pair_put, value_put}
use Rattle.bpf_file.specs.Rows.{key_put, pair_added, value_place, element_put, element_added, numbered_bytes, pair_numbered}
use Rattle.bpf_file.specs.Rows.{element_numbered, put_added, numbers_added, program_added, WordsAdd, served, job_added, placed}
use Rattle.bpf_file.specs.Rows.{AddsLine, input_said, job_put}
use Rattle.bpf_file.specs.Reading.{AddsOrRefuses, FieldsSay, is_end, Belongs, ReadsLine, finished, AreRead, IsRunFile}
use Rattle.bpf_file.specs.Private.Fits.{IsFit, IsFitState, IsFitResult}
use Rattle.bpf_file.proofs.Fits.{fit_nothing, line_fits, opening_fits, section_fits}

-- ---- only the first line of a program's assembly opens it

-- no program is open
abbrev IsClosed : Result State FileError → Type 0
IsClosed (Ok (Between p)) = Unit {0}
IsClosed (Ok (Within p from name lines)) = ⊥
IsClosed (Err e) = Unit {0}

unless_closed : (n : ℕ) (o : Option Reason) (p : Part) → IsClosed (unless n o p)
unless_closed n None p = tt
unless_closed n (Some why) p = tt

laid_closed : (n : ℕ) (p : Part) (a at : ℕ) (d : Result (List ℕ) FromHexError) → IsClosed (data_laid n p a at d)
laid_closed n p a at (Ok bytes) = tt
laid_closed n p a at (Err e) = tt

or_closed : (n : ℕ) (o : Option Reason) (r : Result State FileError) → IsClosed r → IsClosed (or_refused n o r)
or_closed n None r h = h
or_closed n (Some why) r h = tt

data_closed : (n : ℕ) (p : Part) (k : Option ℕ) (at : ℕ) (digits : List ℕ) → IsClosed (data_added n p k at digits)
data_closed n p (Some a) at digits =
    or_closed n (data_refusal p.file a (at + length digits / 2)) (data_laid n p a at (decode_of digits)) (laid_closed n p a at (decode_of digits))
data_closed n p None at digits = tt

variable_closed : (n : ℕ) (p : Part) (name : List ℕ) (k : Option ℕ) (at : ℕ) (size : Size) → IsClosed (variable_added n p name k at size)
variable_closed n p name (Some a) at size =
    unless_closed n (place_refusal a at size (slice_get p.file.arrays a)) (with_variable p (record { name = name; array = a; at = at; size = size }))
variable_closed n p name None at size = tt

if_closed : (b : Bool) (r s : Result State FileError) → IsClosed r → IsClosed s → IsClosed (if b then r else s)
if_closed true r s x y = x
if_closed false r s x y = y

pair_closed : (n : ℕ) (p : Part) (pair : Pair) → IsClosed (pair_put n p pair)
pair_closed n p pair = if_closed (has_key pair.map pair.key p.file.pairs) (Err (Refused n reason.BadPair)) (Ok (Between (with_pair p pair))) tt tt

value_closed : (n : ℕ) (p : Part) (m : ℕ) (key : List ℕ) (value : Result (List ℕ) FromHexError) → IsClosed (value_put n p m key value)
value_closed n p m key (Ok value) = pair_closed n p (record { map = m; key = key; value = value })
value_closed n p m key (Err e) = if_closed (has_key m key p.file.pairs) (Err (Refused n reason.BadPair)) (Err (Refused n reason.NotHex)) tt tt

key_closed : (n : ℕ) (p : Part) (m : ℕ) (key value : Result (List ℕ) FromHexError) → IsClosed (key_put n p m key value)
key_closed n p m (Ok key) value = value_closed n p m key value
key_closed n p m (Err e) value = tt

pair_added_closed : (n : ℕ) (p : Part) (m : ℕ) (key value : List ℕ) (h : Option MapShape) → IsClosed (pair_added n p m key value h)
pair_added_closed n p m key value None = tt
pair_added_closed n p m key value (Some h) =
    or_closed n (pair_refusal p.file m (is_sized (length key / 2) (length value / 2) h) h) (key_put n p m (decode_of key) (decode_of value))
    (key_closed n p m (decode_of key) (decode_of value))

element_closed : (n : ℕ) (p : Part) (a : ℕ) (at : Result ℕ Reason) (bytes : Result (List ℕ) FromHexError) → IsClosed (element_put n p a at bytes)
element_closed n p a (Ok at) bytes = laid_closed n p a at bytes
element_closed n p a (Err why) bytes = tt

element_added_closed : (n : ℕ) (p : Part) (a : ℕ) (i : Option ℕ) (value : List ℕ) (g : Option ArrayShape) → IsClosed (element_added n p a i value g)
element_added_closed n p a i value None = tt
element_added_closed n p a i value (Some g) = element_closed n p a (value_place a g (length value / 2 == g.value) i) (decode_of value)

pair_numbered_closed : (n : ℕ) (p : Part) (m k : ℕ) (bytes : List ℕ) (h : Option MapShape) → IsClosed (pair_numbered n p m k bytes h)
pair_numbered_closed n p m k bytes None = tt
pair_numbered_closed n p m k bytes (Some h) =
    let pair : Pair = record { map = m; key = low_bytes h.key k; value = up_to h.value bytes } in
    or_closed n (pair_refusal p.file m (is_numbered k (length bytes) h) h) (pair_put n p pair) (pair_closed n p pair)

element_numbered_closed : (n : ℕ) (p : Part) (a i : ℕ) (bytes : List ℕ) (g : Option ArrayShape) → IsClosed (element_numbered n p a i bytes g)
element_numbered_closed n p a i bytes None = tt
element_numbered_closed n p a i bytes (Some g) = element_closed n p a (value_place a g (nat_le (length bytes) g.value) (Some i)) (Ok (up_to g.value bytes))

put_closed : (n : ℕ) (p : Part) (k : Option ℕ) (key value : List ℕ) → IsClosed (put_added n p k key value)
put_closed n p None key value = tt
put_closed n p (Some k) key value =
    let maps = p.file.maps in
    let a = k - length maps in
    if_closed (nat_lt k (length maps)) (pair_added n p k key value (slice_get maps k))
    (element_added n p a (written_number key) value (slice_get p.file.arrays a))
    (pair_added_closed n p k key value (slice_get maps k)) (element_added_closed n p a (written_number key) value (slice_get p.file.arrays a))

numbers_closed : (n : ℕ) (p : Part) (k : Option ℕ) (key : ℕ) (r : Result (List ℕ) Reason) → IsClosed (numbers_added n p k key r)
numbers_closed n p k key (Err why) = tt
numbers_closed n p None key (Ok bytes) = tt
numbers_closed n p (Some k) key (Ok bytes) =
    let maps = p.file.maps in
    let a = k - length maps in
    if_closed (nat_lt k (length maps)) (pair_numbered n p k key bytes (slice_get maps k)) (element_numbered n p a key bytes (slice_get p.file.arrays a))
    (pair_numbered_closed n p k key bytes (slice_get maps k)) (element_numbered_closed n p a key bytes (slice_get p.file.arrays a))

program_closed : (p : Part) (name : List ℕ) (o : Result Loaded FileError) → IsClosed (program_added p name o)
program_closed p name (Ok program) = tt
program_closed p name (Err e) = tt

words_closed : (k : Option ℕ) (n : ℕ) (p : Part) (name digits : List ℕ) (r : Result State FileError) → WordsAdd k n p name digits r → IsClosed r
words_closed (Some k) n p name digits r e = subst IsClosed (sym e) tt
words_closed None n p name digits r (o, of, e) = subst IsClosed (sym e) (program_closed p name o)

said_closed : (n : ℕ) (p : Part) (c k : ℕ) (line : JobSaid) (given : Result Input FromHexError) → IsClosed (job_put n p c k line given)
said_closed n p c k line (Ok input) = tt
said_closed n p c k line (Err e) = tt

job_closed : (n : ℕ) (p : Part) (cpu program : Option ℕ) (line : JobSaid) → IsClosed (job_added n p cpu program line)
job_closed n p (Some c) (Some k) line = said_closed n p c k line (input_said (length p.file.jobs) c line)
job_closed n p (Some c) None line = tt
job_closed n p None k line = tt

module _ (n : ℕ) (p q : Part) (from : ℕ) (name : List ℕ) (lines : List (List ℕ)) where
  never : (r : Result State FileError) → Ok (Within q from name lines) ≡ r → IsClosed r → ⊥
  never r e h = subst IsClosed (sym e) h

  opened : (b : Bool) (title : List ℕ) → Ok (Within q from name lines) ≡ (if b then Err (Refused n reason.TwiceName) else Ok (Within p n title []))
      → Ok (Within q n name []) ≡ (if b then Err (Refused n reason.TwiceName) else Ok (Within p n title []))
  opened true title e = cc
  opened false title e = cc

  adds_first : (s : Said) → AddsLine n p s (Ok (Within q from name lines)) → AddsLine n p s (Ok (Within q n name []))
  adds_first (Version version) e = cc
  adds_first (Cpus c) e = absurd (never (unless n (cpus_refusal c) (with_cpus p c)) e (unless_closed n (cpus_refusal c) (with_cpus p c)))
  adds_first (Seed s) e = cc
  adds_first (Map title h) e = absurd (never (unless n (map_refusal p title h) (with_map p title h)) e
      (unless_closed n (map_refusal p title h) (with_map p title h)))
  adds_first (Array title g) e = absurd (never (unless n (array_refusal p title g) (with_array p title g)) e
      (unless_closed n (array_refusal p title g) (with_array p title g)))
  adds_first (Data title at digits) e = absurd (never (data_added n p (array_place p.file title) at digits) e
      (data_closed n p (array_place p.file title) at digits))
  adds_first (Variable title array at size) e =
      absurd (never (or_refused n (name_refusal p.file title) (variable_added n p title (array_place p.file array) at size)) e
      (or_closed n (name_refusal p.file title) (variable_added n p title (array_place p.file array) at size)
      (variable_closed n p title (array_place p.file array) at size)))
  adds_first (Put title key value) e = absurd (never (put_added n p (place_of title p.file.names.maps) key value) e
      (put_closed n p (place_of title p.file.names.maps) key value))
  adds_first (PutNumbers title key size numbers) e =
      absurd (never (numbers_added n p (place_of title p.file.names.maps) key (numbered_bytes size numbers)) e
      (numbers_closed n p (place_of title p.file.names.maps) key (numbered_bytes size numbers)))
  adds_first (Program title) e = opened (is_there (place_of title p.titles)) title e
  adds_first (Words title digits) w = absurd (words_closed (place_of title p.titles) n p title digits (Ok (Within q from name lines)) w)
  adds_first (Job line) e =
      absurd (never (job_added n p (served p.file.cpus line.cpu) (place_of line.program p.titles) line) e
      (job_closed n p (served p.file.cpus line.cpu) (place_of line.program p.titles) line))

  says_first : (w : Result Said Reason) → AddsOrRefuses n p w (Ok (Within q from name lines)) → AddsOrRefuses n p w (Ok (Within q n name []))
  says_first (Ok s) a = adds_first s a
  says_first (Err why) e = cc

  fields_first : (fs : List (List ℕ)) → FieldsSay n p fs (Ok (Within q from name lines)) → FieldsSay n p fs (Ok (Within q n name []))
  fields_first [] e = cc
  fields_first (g ∷ gs) a = says_first (placed p g (statement_of p.version (g ∷ gs))) a

-- ---- every line keeps to the sizes
belongs_fit : (end : Bool) (p : Part) (from : ℕ) (name : List ℕ) (ls : List (List ℕ)) (l : List ℕ) (t : State) → Belongs end p from name ls
    l (Ok t) → IsFit p → p.file.jobs ≡ [] → IsFitState t
belongs_fit true p from name ls l (Between q) a f j = section_fits from p q name (text_of_lines ls) a (f, j)
belongs_fit true p from name ls l (Within q m title lines) (o, of, e) f j = absurd (subst IsClosed (sym e) (program_closed p name o))
belongs_fit false p from name ls l t e f j = subst IsFitResult (sym e) (f, j)

reads_fit : (n : ℕ) (s t : State) (l : List ℕ) → ReadsLine n s l (Ok t) → IsFitState s → IsFitState t
reads_fit n (Between p) (Between q) l a f = line_fits n p q (fields_of l) a f
reads_fit n (Between p) (Within q from name lines) l a f = opening_fits n p q (fields_of l) name (fields_first n p q from name lines (fields_of l) a) f
reads_fit n (Within p from name ls) t l a (f, j) = belongs_fit (is_end l) p from name ls l t a f j

-- ---- so the whole file does
at_most : (n most : ℕ) → nat_lt most n ≡ false → n ≤ most
at_most n most e = grind (arith, nat_tests)

part_shaped : (p : Part) → IsFit p → IsShape (shape_of p.file)
part_shaped p f = record {
  cpus = outside_false 1 16 p.file.cpus f.cpus;
  count = at_most (length p.file.maps) 16 f.count;
  each = maps_in_range 0 p.file.maps f.maps;
  array_count = at_most (length p.file.arrays) 16 f.array_count;
  arrays = λ a g there. arrays_in_range p.file.cpus p.file.contents 0 p.file.arrays f.arrays a a g (omega arith) there;
}

finished_shaped : (s : State) (f : File) → Ok f ≡ finished s → IsFitState s → IsShape (shape_of f)
finished_shaped (Within p from name ls) f e h = cc
finished_shaped (Between p) f e h = by_test (p.group == 0) e
  where
    by_test : (b : Bool) → Ok f ≡ (if b then Err (Refused 1 reason.BadFirstLine) else Ok p.file) → IsShape (shape_of f)
    by_test true e = cc
    by_test false e = let same : p.file ≡ f = cc in subst (λ (g : File). IsShape (shape_of g)) same (part_shaped p h)

abbrev Follow : ℕ → List (List ℕ) → File → Result State FileError → Type 0
Follow n ls f t = MatchResult t (λ u. AreRead (n + 1) u ls (Ok f)) (λ e. Ok f ≡ Err e)

then_shaped : (n : ℕ) (s : State) (l : List ℕ) (ls : List (List ℕ)) (f : File) (t : Result State FileError) → ReadsLine n s l t → Follow n ls f t → IsFitState s
    → ((u : State) → AreRead (n + 1) u ls (Ok f) → IsFitState u → IsShape (shape_of f)) → IsShape (shape_of f)
then_shaped n s l ls f (Ok u) r m h more = more u m (reads_fit n s u l r h)
then_shaped n s l ls f (Err e) r m h more = cc

all_shaped : (ls : List (List ℕ)) (n : ℕ) (s : State) (f : File) → AreRead n s ls (Ok f) → IsFitState s → IsShape (shape_of f)
all_shaped [] n s f e h = finished_shaped s f e h
all_shaped (l ∷ ls) n s f (t, r, m) h = then_shaped n s l ls f t r m h (λ u a k. all_shaped ls (n + 1) u f a k)

pub shaped : (text : List ℕ) (f : File) → IsRunFile text (Ok f) → IsShape (shape_of f)
shaped text f r = all_shaped (lines_of text) 1 (Between nothing) f r fit_nothing
