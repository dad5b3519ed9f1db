-- The sizes of a file stay in their ranges, and its jobs and programs those of a machine, line by
-- line.
use Rattle.std.proofs.Common.{◌≡◌, ℕ, ◌+◌, ◌-◌, ◌*◌, ◌/◌, ◌<◌, ◌≤◌, ◌==◌, ◌&&◌, nat_lt, nat_le, add-zero, Bool, true, false, if◌then◌else◌}
use Rattle.std.proofs.Common.{List, [], ◌∷◌, ◌++◌, length, length-append, get_or, append_assoc, append-nil, Option, Some, None, Result, Ok}
use Rattle.std.proofs.Common.{Err, refl, sym, ap, subst, ◌∙◌, arith}
use Rattle.std.proofs.lemmas.Bool.Decides.{nat_tests}
use Rattle.std.specs.Prelude.{All, OnOk, MatchResult, slice_get}
use Rattle.std.proofs.lemmas.List.{length-set}
use Rattle.std.proofs.lemmas.Nat.{row_fits_turned}
use Rattle.std.specs.Str.{bytes_eq}
use Rattle.std.proofs.lemmas.List.Elements.{All-nil, All-cons, All-append}
use Rattle.hex.specs.Hex.{decode_of}
use Rattle.hex.proofs.HexLemmas.{decode_of-ok}
use Rattle.bpf_insn.specs.declared.instruction.Insn.{Insn}
use Rattle.bpf_mem.specs.Limits.{max_context, max_packet}
use Rattle.bpf_cpu.specs.declared.input.Input.{Input}
use Rattle.bpf_cpu.specs.Input.{IsShort as IsShortInput}
use Rattle.bpf_cpu.specs.Task.{Task, Waiting}
use Rattle.bpf_helpers.specs.declared.given.Given.{Given}
use Rattle.bpf_lines.specs.Lines.{lines_of, fields_of}
use Rattle.bpf_lines.specs.Words.{written_number}
use Rattle.std.specs.Option.{option_map}
use Rattle.hex.specs.declared.error.FromHexError.{FromHexError}
use Rattle.bpf_shared.specs.First.{first_of}
use Rattle.bpf_base.specs.Bytes.{low_bytes, modulus}
use Rattle.bpf_base.proofs.Numbers.{length-low_bytes}
use Rattle.bpf_shared.specs.Shape.{IsMap, IsPairOf, array_stride, copy_size}
use Rattle.bpf_shared.proofs.Refusing.{array_passes, arrays_in_range}
use Rattle.bpf_pairs.specs.Pairs.{ArePairs, Pair, has_key, pairs_in}
use Rattle.bpf_pairs.proofs.Filling.{are_more}
use Rattle.bpf_shared.specs.Refusals.{outside, map_tests, maps_tests, shape_tests, array_tests, each_array_tests}
use Rattle.bpf_shared.specs.declared.shapes.ArrayShape.{ArrayShape}
use Rattle.bpf_shared.specs.declared.shapes.MapShape.{MapShape}
use Rattle.bpf_shared.specs.declared.shapes.ShapeError.{ShapeError}
use Rattle.bpf_shared.specs.declared.shapes.ShapeError.TheVariants.{CpuCount, TooManyMaps, TooManyArrays, ArrayContents}
use Rattle.bpf_shared.specs.declared.events.Size.{Size}
use Rattle.bpf_names.specs.Names.{Variable as Bytes}
use Rattle.bpf_loader.specs.declared.named.Named.{Named}
use Rattle.bpf_loader.specs.Loaded.{Loaded}
use Rattle.bpf_file.specs.declared.version.Version.{Version as Edition}
use Rattle.bpf_file.specs.declared.error.FileError.{FileError}
use Rattle.bpf_file.specs.declared.error.FileError.TheVariants.{Refused}
use Rattle.bpf_file.specs.declared.error.Reason.{Reason}
use Rattle.bpf_file.specs.declared.error.Reason.TheVariants as reason
use Rattle.bpf_file.specs.declared.packet.Hook.{Hook}
use Rattle.bpf_file.specs.declared.packet.Hook.TheVariants.{Xdp, Tc}
use Rattle.bpf_file.specs.Form.{is_there}
use Rattle.bpf_file.specs.Limits.{most_pairs}
use Rattle.bpf_file.specs.Statement.{Said, Version, Cpus, Seed, Map, Array, Data, Variable, Put, PutNumbers, Program, Words, Job, statement_of, JobSaid}
use Rattle.bpf_file.specs.Packet.{packet_context}
use Rattle.bpf_file.specs.File.{File, named_by}
use Rattle.bpf_file.specs.Contents.{laid, up_to}
use Rattle.bpf_file.specs.Parts.{Part, State, Between, Within, nothing, is_taken, place_of, array_place, with_first, with_cpus, with_seed}
use Rattle.bpf_file.specs.Parts.{with_map, with_array, with_data, with_pair, with_variable, with_program, with_job}
use Rattle.bpf_text.specs.Symbols.{Table}
use Rattle.bpf_file.specs.Symbols.{names_for}
use Rattle.bpf_file.specs.Programs.{LoadsProgram, OfBytes, OfAssembly, refusal_behind, text_of_lines}
use Rattle.bpf_file.specs.Rows.{unless, cpus_refusal, map_refusal, array_refusal, size_refusal, data_refusal, data_laid, or_refused}
use Rattle.bpf_file.specs.Rows.{data_added, name_refusal, place_refusal, variable_added, is_sized, is_numbered, pair_refusal, pair_put}
use Rattle.bpf_file.specs.Rows.{key_put, pair_added, value_place, element_put, element_added, numbered_bytes, pair_numbered}
use Rattle.bpf_file.specs.Rows.{element_numbered, numbers_added, put_added, program_added, WordsAdd, served, context_of, job_added, placed}
use Rattle.bpf_file.specs.Rows.{AddsLine, given_by, number_or, without_packet, around_packet, input_of, input_said, job_put}
use Rattle.bpf_base.specs.declared.budget.TheConstants.{DEFAULT_BUDGET}
use Rattle.bpf_file.specs.Reading.{AddsOrRefuses, FieldsSay, is_end, Belongs, ReadsLine, finished, AreRead}
use Rattle.bpf_file.specs.Runnable.{IsJobFor, CanRun}
use Rattle.bpf_file.specs.Laws.{FilesCanRun}
use Rattle.bpf_file.specs.Private.Drafts.{Ends, IsBrief, IsShort}
use Rattle.bpf_file.specs.Private.Fits.{IsFit, IsFitState, IsFitResult}
use Rattle.bpf_file.proofs.Arrays.{arrays_with_new, arrays_with_data, padded_size}
use Rattle.bpf_file.proofs.Names.{and_both}
use Rattle.bpf_file.proofs.Comes.{IsInPlace, Comes, before, comes}

-- ---- tests of maps

skip : {A : Type 0} (b : Bool) (x : A) (o r : Option A) → (if b then Some x else o) ≡ None → (o ≡ None → r ≡ None) → (if b then Some x else r) ≡ None
skip true x o r e f = cc
skip false x o r e f = f e

first_of-append : {A : Type 0} (ts us : List (A × Bool)) → first_of ts ≡ None → first_of us ≡ None → first_of (ts ++ us) ≡ None
first_of-append [] us e h = h
first_of-append (t ∷ ts) us e h =
    skip t.1 t.0 (first_of ts) (first_of (ts ++ us)) e (λ g. first_of-append ts us g h)

maps_tests-append : (hs : List MapShape) (m : ℕ) (h : MapShape) → maps_tests m (hs ++ h ∷ []) ≡ maps_tests m hs ++ map_tests (m + length hs) h
maps_tests-append [] m h = append-nil (map_tests m h) ∙ ap (λ k. map_tests k h) (sym (add-zero m))
maps_tests-append (g ∷ hs) m h =
    let counted : (m + 1) + length hs ≡ m + length (g ∷ hs) = omega arith in
    ap (λ ts. map_tests m g ++ ts) (maps_tests-append hs (m + 1) h)
    ∙ sym (append_assoc (map_tests m g) (maps_tests (m + 1) hs) (map_tests ((m + 1) + length hs) h))
    ∙ ap (λ k. (map_tests m g ++ maps_tests (m + 1) hs) ++ map_tests k h) counted

-- ---- programs and jobs

-- before any job and program, a machine of no work
none_are : (maps : List MapShape) → ArePairs maps []
none_are maps = record { sized = All-nil (λ p. IsPairOf maps p.map p.key p.value); new = tt; room = λ m g at. omega arith }

no_work : (f : File) → f.jobs ≡ [] → f.programs ≡ [] → ArePairs f.maps f.pairs → CanRun f
no_work f e h ps =
    let J : List Task → Type 0 = λ ts. All (IsJobFor f.cpus (length f.programs)) ts in
    let M : List Loaded → Type 0 = λ ps. All (λ q. q.named ≡ named_by f) ps in
    record { jobs = subst J (sym e) (All-nil (IsJobFor f.cpus (length f.programs))); named = subst M (sym h) (All-nil (λ q. q.named ≡ named_by f)); pairs = ps }

-- loaded for these maps and arrays
abbrev LoadedFor : Named → Result Loaded FileError → Type 0
LoadedFor named (Ok program) = program.named ≡ named
LoadedFor named (Err e) = Unit {0}

loads_for : (line : ℕ) (named : Named) (is : List Insn) (o : Result Loaded FileError) → LoadsProgram line named is o → LoadedFor named o
loads_for line named is (Ok program) (e, s) = ap (λ q. q.named) e
loads_for line named is (Err e) l = tt

refused_for : (named : Named) (e : FileError) (o : Result Loaded FileError) → o ≡ Err e → LoadedFor named o
refused_for named e o h = subst (LoadedFor named) (sym h) tt

insns_for : {E : Type 0} (line : ℕ) (named : Named) (why : E → FileError) (is : Result (List Insn) E) (o : Result Loaded FileError) →
    MatchResult is (λ js. LoadsProgram line named js o) (λ e. o ≡ Err (why e)) → LoadedFor named o
insns_for line named why (Ok js) o l = loads_for line named js o l
insns_for line named why (Err e) o h = refused_for named (why e) o h

bytes_for : (line : ℕ) (named : Named) (bytes : List ℕ) (o : Result Loaded FileError) → OfBytes line named bytes o → LoadedFor named o
bytes_for line named bytes o (is, d, l) = insns_for line named (λ e. Refused line (reason.Insn e)) is o l

digits_for : (line : ℕ) (named : Named) (d : Result (List ℕ) FromHexError) (o : Result Loaded FileError) → MatchResult d
    (λ bytes. OfBytes line named bytes o) (λ e. o ≡ Err (Refused line reason.NotHex)) → LoadedFor named o
digits_for line named (Ok bytes) o l = bytes_for line named bytes o l
digits_for line named (Err e) o h = refused_for named (Refused line reason.NotHex) o h

assembly_for : (line : ℕ) (named : Named) (names : Option Table) (text : List ℕ) (o : Result Loaded FileError) → OfAssembly line named names
    text o → LoadedFor named o
assembly_for line named names text o (is, a, l) = insns_for line named (refusal_behind line) is o l

served_below : (cpus : ℕ) (o : Option ℕ) (c : ℕ) → served cpus o ≡ Some c → c < cpus
served_below cpus None c e = cc
served_below cpus (Some n) c e = by_test (nat_lt n cpus) refl e
  where
    by_test : (b : Bool) → nat_lt n cpus ≡ b → (if b then Some n else None) ≡ Some c → c < cpus
    by_test true h e = let same : n ≡ c = cc in let P : ℕ → Type 0 = λ k. k < cpus in subst P same (grind (arith, nat_tests))
    by_test false h e = cc

place_below : (name : List ℕ) (ns : List (List ℕ)) (k : ℕ) → place_of name ns ≡ Some k → k < length ns
place_below name [] k e = cc
place_below name (n ∷ ns) k e = by_test (bytes_eq n name) (place_of name ns) (place_below name ns) e
  where
    by_test : (b : Bool) (o : Option ℕ) → ((j : ℕ) → o ≡ Some j → j < length ns) → (if b then Some 0 else option_map (λ j. j + 1) o) ≡ Some
        k → k < length (n ∷ ns)
    by_test true o h e = let same : 0 ≡ k = cc in omega arith
    by_test false None h e = cc
    by_test false (Some j) h e = let same : j + 1 ≡ k = cc in let below : j < length ns = h j refl in omega arith

pub context_short : (context : Option (List ℕ)) (bytes : List ℕ) → IsShort context → context_of context ≡ Ok bytes → length bytes ≤ max_context
context_short None bytes s e = let same : [] ≡ bytes = cc in let P : List ℕ → Type 0 = λ b. length b ≤ max_context in subst P same (omega arith)
context_short (Some digits) bytes s e = let sizes = decode_of-ok digits bytes e in let twice : length digits ≡ 2 * length bytes = sizes.2 in omega arith

-- as many bytes as the structures have
context_small : (hook : Hook) (cpu : ℕ) (bytes : List ℕ) → length (packet_context hook cpu bytes) ≤ max_context
context_small Xdp cpu bytes = let n : length (packet_context Xdp cpu bytes) ≡ 24 = refl in omega (arith, n)
context_small Tc cpu bytes = let n : length (packet_context Tc cpu bytes) ≡ 192 = refl in omega (arith, n)

bare_short : (given : Given) (r : Result (List ℕ) FromHexError) (input : Input) →
    ((bytes : List ℕ) → r ≡ Ok bytes → length bytes ≤ max_context) → without_packet given r ≡ Ok input → IsShortInput input
bare_short given (Ok bytes) input h e =
    let whole : Input = record { context = bytes; packet = []; given = given } in
    let same : whole ≡ input = cc in
    subst IsShortInput same (h bytes refl, omega arith)
bare_short given (Err x) input h e = cc

around_short : (given : Given) (hook : Hook) (cpu : ℕ) (r : Result (List ℕ) FromHexError) (input : Input) →
    ((bytes : List ℕ) → r ≡ Ok bytes → length bytes ≤ max_packet) → around_packet given hook cpu r ≡ Ok input → IsShortInput input
around_short given hook cpu (Ok bytes) input h e =
    let whole : Input = record { context = packet_context hook cpu bytes; packet = bytes; given = given } in
    let same : whole ≡ input = cc in
    subst IsShortInput same (context_small hook cpu bytes, h bytes refl)
around_short given hook cpu (Err x) input h e = cc

pub packet_short : (digits bytes : List ℕ) → length digits ≤ 2 * max_packet → decode_of digits ≡ Ok bytes → length bytes ≤ max_packet
packet_short digits bytes s e = let sizes = decode_of-ok digits bytes e in let twice : length digits ≡ 2 * length bytes = sizes.2 in omega arith

pub input_short : (given : Given) (cpu : ℕ) (context : Option (List ℕ)) (packet : Option (Hook × List ℕ)) (input : Input) → IsShort context
    → IsBrief packet → input_of given cpu context packet ≡ Ok input → IsShortInput input
input_short given cpu context None input short brief e = bare_short given (context_of context) input (λ bytes h. context_short context bytes short h) e
input_short given cpu context (Some packet) input short brief e = around_short given packet.0 cpu (decode_of packet.1) input
    (λ bytes h. packet_short packet.1 bytes brief h) e

-- ---- the rows

pub fit_nothing : IsFit nothing
fit_nothing = record {
  cpus = refl;
  count = refl;
  maps = refl;
  array_count = refl;
  arrays = refl;
  contents = refl;
  titles = refl;
  runs = no_work nothing.file refl refl (none_are []);
  no_arrays = λ h. refl;
  no_pairs = λ h. refl;
  no_programs = λ h. refl;
  no_jobs = λ h. refl;
}

fit_unless : (n : ℕ) (o : Option Reason) (q : Part) → (o ≡ None → IsFit q) → IsFitResult (unless n o q)
fit_unless n None q f = f refl
fit_unless n (Some why) q f = tt

cpus_in_range : (b : Bool) → (if b then Some (reason.Shape CpuCount) else None) ≡ None → b ≡ false
cpus_in_range true e = cc
cpus_in_range false e = refl

-- no work yet
abbrev IsIdle : Part → Type 0
IsIdle p = (p.file.jobs ≡ []) × (p.file.programs ≡ [])

idle : (p : Part) (group : ℕ) → IsFit p → IsInPlace p.group group → group < 7 → IsIdle p
idle p group f h g = (f.no_jobs (before p.group group 8 h (omega arith)), f.no_programs (before p.group group 7 h g))

no_arrays_at : (p : Part) (group : ℕ) → IsFit p → IsInPlace p.group group → group < 5 → p.file.arrays ≡ []
no_arrays_at p group f h g = f.no_arrays (before p.group group 5 h g)

no_pairs_at : (p : Part) (group : ℕ) → IsFit p → IsInPlace p.group group → group < 6 → p.file.pairs ≡ []
no_pairs_at p group f h g = f.no_pairs (before p.group group 6 h g)

fit_first : (p : Part) (version : Edition) → IsFit p → IsIdle p → p.file.arrays ≡ [] → p.file.pairs ≡ [] → IsFit (with_first p version)
fit_first p version f i a b = record {
  cpus = f.cpus;
  count = f.count;
  maps = f.maps;
  array_count = f.array_count;
  arrays = f.arrays;
  contents = f.contents;
  titles = f.titles;
  runs = f.runs;
  no_arrays = λ h. a;
  no_pairs = λ h. b;
  no_programs = λ h. i.1;
  no_jobs = λ h. i.0;
}

fit_cpus : (p : Part) (c : ℕ) → IsFit p → IsIdle p → p.file.arrays ≡ [] → p.file.pairs ≡ [] → cpus_refusal c ≡ None → IsFit (with_cpus p c)
fit_cpus p c f i a b e =
    let A : List ArrayShape → Type 0 = λ gs. first_of (each_array_tests c p.file.contents 0 gs) ≡ None in
    record {
      cpus = cpus_in_range (outside 1 16 c) e;
      count = f.count;
      maps = f.maps;
      array_count = f.array_count;
      arrays = subst A (sym a) refl;
      contents = f.contents;
      titles = f.titles;
      runs = no_work (with_cpus p c).file i.0 i.1 f.runs.pairs;
      no_arrays = λ h. a;
      no_pairs = λ h. b;
      no_programs = λ h. i.1;
      no_jobs = λ h. i.0;
    }

fit_seed : (p : Part) (s : ℕ) → IsFit p → IsIdle p → p.file.arrays ≡ [] → p.file.pairs ≡ [] → IsFit (with_seed p s)
fit_seed p s f i a b = record {
  cpus = f.cpus;
  count = f.count;
  maps = f.maps;
  array_count = f.array_count;
  arrays = f.arrays;
  contents = f.contents;
  titles = f.titles;
  runs = no_work (with_seed p s).file i.0 i.1 f.runs.pairs;
  no_arrays = λ h. a;
  no_pairs = λ h. b;
  no_programs = λ h. i.1;
  no_jobs = λ h. i.0;
}

one_passes : (named full : Bool) (many : ShapeError) (o : Option ShapeError) →
    (if named then Some reason.TwiceName else (if full then Some (reason.Shape many) else option_map reason.Shape o)) ≡ None →
    (full ≡ false) × (o ≡ None)
one_passes true full many o e = cc
one_passes false true many o e = cc
one_passes false false many None e = (refl, refl)
one_passes false false many (Some x) e = cc

one_more : (n m : ℕ) → nat_le 16 n ≡ false → m ≡ n + 1 → nat_lt 16 m ≡ false
one_more n m e h = grind (arith, nat_tests)

from_zero : (n : ℕ) → 0 + n ≡ n
from_zero n = omega arith

fit_map : (p : Part) (name : List ℕ) (h : MapShape) → IsFit p → IsIdle p → p.file.arrays ≡ [] → p.file.pairs ≡ [] → map_refusal p name h ≡
    None → IsFit (with_map p name h)
fit_map p name h f i a b e =
    let passed = one_passes (is_taken p.file name) (nat_le 16 (length p.file.maps)) TooManyMaps (first_of (map_tests (length p.file.maps) h)) e in
    record {
      cpus = f.cpus;
      count = one_more (length p.file.maps) (length (p.file.maps ++ h ∷ [])) passed.0 (length-append p.file.maps (h ∷ []));
      maps = ap first_of (maps_tests-append p.file.maps 0 h)
          ∙ ap (λ k. first_of (maps_tests 0 p.file.maps ++ map_tests k h)) (from_zero (length p.file.maps))
          ∙ first_of-append (maps_tests 0 p.file.maps) (map_tests (length p.file.maps) h) f.maps passed.1;
      array_count = f.array_count;
      arrays = f.arrays;
      contents = f.contents;
      titles = f.titles;
      runs = no_work (with_map p name h).file i.0 i.1 (subst (ArePairs (p.file.maps ++ h ∷ [])) (sym b) (none_are (p.file.maps ++ h ∷ [])));
      no_arrays = λ h. a;
      no_pairs = λ h. b;
      no_programs = λ h. i.1;
      no_jobs = λ h. i.0;
    }

fit_array : (p : Part) (name : List ℕ) (g : ArrayShape) → IsFit p → IsIdle p → p.file.pairs ≡ [] → array_refusal p name g ≡ None → IsFit (with_array p name g)
fit_array p name g f i b e =
    let passed = one_passes (is_taken p.file name) (nat_le 16 (length p.file.arrays)) TooManyArrays
    (first_of (array_tests p.file.cpus 0 (length p.file.arrays) g)) e in
    let more = length-append p.file.arrays (g ∷ []) in
    let bytes = length-append p.file.contents ([] ∷ []) in
    record {
      cpus = f.cpus;
      count = f.count;
      maps = f.maps;
      array_count = one_more (length p.file.arrays) (length (p.file.arrays ++ g ∷ [])) passed.0 more;
      arrays = arrays_with_new p.file.cpus p.file.contents p.file.arrays g f.contents f.arrays passed.1;
      contents = let counted = f.contents in omega (arith, more, bytes, counted);
      titles = f.titles;
      runs = no_work (with_array p name g).file i.0 i.1 f.runs.pairs;
      no_arrays = λ h. absurd (omega arith);
      no_pairs = λ h. b;
      no_programs = λ h. i.1;
      no_jobs = λ h. i.0;
    }

fit_laid : (p : Part) (a at filled : ℕ) (bytes : List ℕ) → filled ≡ at + length bytes → IsFit p → IsIdle p → data_refusal p.file a filled ≡
    None → IsFit (with_data p a at bytes)
fit_laid p a at filled bytes counted f i e = by_array (slice_get p.file.arrays a) refl e
  where
    none_passes : (o : Option ShapeError) → option_map reason.Shape o ≡ None → o ≡ None
    none_passes None e = refl
    none_passes (Some x) e = cc

    by_array : (o : Option ArrayShape) → slice_get p.file.arrays a ≡ o → size_refusal p.file.cpus filled a o ≡ None → IsFit (with_data p a at bytes)
    by_array None h e = cc
    by_array (Some g) h e = record {
      cpus = f.cpus;
      count = f.count;
      maps = f.maps;
      array_count = f.array_count;
      arrays = arrays_with_data p.file.cpus p.file.contents p.file.arrays a g at filled bytes f.contents f.arrays h counted (none_passes _ e);
      contents = length-set p.file.contents a (laid (get_or p.file.contents a []) at bytes) ∙ f.contents;
      titles = f.titles;
      runs = no_work (with_data p a at bytes).file i.0 i.1 f.runs.pairs;
      no_arrays = λ h. absurd (omega arith);
      no_pairs = λ h. absurd (omega arith);
      no_programs = λ h. i.1;
      no_jobs = λ h. i.0;
    }

fit_data : (n : ℕ) (p : Part) (k : Option ℕ) (at : ℕ) (digits : List ℕ) → IsFit p → IsIdle p → IsFitResult (data_added n p k at digits)
fit_data n p None at digits f i = tt
fit_data n p (Some a) at digits f i = by_refusal (data_refusal p.file a (at + length digits / 2)) refl
  where
    by_digits : (d : Result (List ℕ) FromHexError) → decode_of digits ≡ d → data_refusal p.file a (at + length digits / 2) ≡ None →
        IsFitResult (data_laid n p a at d)
    by_digits (Ok bytes) h e =
        let sizes = decode_of-ok digits bytes h in
        let twice : length digits ≡ 2 * length bytes = sizes.2 in
        fit_laid p a at (at + length digits / 2) bytes (ap (λ m. at + m / 2) twice ∙ omega arith) f i e
    by_digits (Err x) h e = tt

    by_refusal : (o : Option Reason) → data_refusal p.file a (at + length digits / 2) ≡ o → IsFitResult (or_refused n o (data_laid n p a at (decode_of digits)))
    by_refusal None e = by_digits (decode_of digits) refl e
    by_refusal (Some why) e = tt

fit_bytes : (p : Part) (v : Bytes) → IsFit p → IsIdle p → IsFit (with_variable p v)
fit_bytes p v f i = record {
  cpus = f.cpus;
  count = f.count;
  maps = f.maps;
  array_count = f.array_count;
  arrays = f.arrays;
  contents = f.contents;
  titles = f.titles;
  runs = no_work (with_variable p v).file i.0 i.1 f.runs.pairs;
  no_arrays = λ h. absurd (omega arith);
  no_pairs = λ h. absurd (omega arith);
  no_programs = λ h. i.1;
  no_jobs = λ h. i.0;
}

fit_variable : (n : ℕ) (p : Part) (name : List ℕ) (k : Option ℕ) (at : ℕ) (size : Size) → IsFit p → IsIdle p → IsFitResult (variable_added n p name k at size)
fit_variable n p name None at size f i = tt
fit_variable n p name (Some a) at size f i =
    fit_unless n (place_refusal a at size (slice_get p.file.arrays a)) _ (λ e. fit_bytes p (record { name = name; array = a; at = at; size = size }) f i)

-- ---- pairs of maps

nat_same : (a b : ℕ) → (a == b) ≡ true → a ≡ b
nat_same a b e = grind (arith, nat_tests)

below_max : (a b : ℕ) → nat_lt a b ≡ true → a < b
below_max a b e = grind (arith, nat_tests)

one_map_shape : (maps : List MapShape) (m : ℕ) (g h : MapShape) → IsMap maps m g → IsMap maps m h → g ≡ h
one_map_shape maps m g h x y = let both : Some g ≡ Some h = sym x ∙ y in cc

fit_pair : (p : Part) (q : Pair) → IsPairOf p.file.maps q.map q.key q.value → has_key q.map q.key p.file.pairs ≡ false →
    ((g : MapShape) → IsMap p.file.maps q.map g → pairs_in q.map p.file.pairs < g.max) → IsFit p → IsIdle p → IsFit (with_pair p q)
fit_pair p q of new room f i = record {
  cpus = f.cpus;
  count = f.count;
  maps = f.maps;
  array_count = f.array_count;
  arrays = f.arrays;
  contents = f.contents;
  titles = f.titles;
  runs = no_work (with_pair p q).file i.0 i.1 (are_more p.file.maps p.file.pairs q f.runs.pairs of new room);
  no_arrays = λ h. absurd (omega arith);
  no_pairs = λ h. absurd (omega arith);
  no_programs = λ h. i.1;
  no_jobs = λ h. i.0;
}

-- a key and a value of a map's sizes, where there is room
fit_pair_put : (n : ℕ) (p : Part) (q : Pair) (g : MapShape) → IsMap p.file.maps q.map g → pairs_in q.map p.file.pairs < g.max → length q.key
    ≡ g.key → length q.value ≡ g.value → IsFit p → IsIdle p → IsFitResult (pair_put n p q)
fit_pair_put n p q g at room key value f i = by_new (has_key q.map q.key p.file.pairs) refl
  where
    by_new : (b : Bool) → has_key q.map q.key p.file.pairs ≡ b → IsFitResult (if b then Err (Refused n reason.BadPair) else Ok (Between (with_pair p q)))
    by_new true e = tt
    by_new false e = fit_pair p q (g, at, key, value) e (λ k to. subst (λ (x : MapShape). pairs_in q.map p.file.pairs < x.max)
        (one_map_shape p.file.maps q.map g k at to) room) f i

fit_key_put : (n : ℕ) (p : Part) (m : ℕ) (g : MapShape) (key value : Result (List ℕ) FromHexError) → IsMap p.file.maps m g → pairs_in m p.file.pairs < g.max
    → ((bytes : List ℕ) → key ≡ Ok bytes → length bytes ≡ g.key) → ((bytes : List ℕ) → value ≡ Ok bytes → length bytes ≡ g.value) → IsFit p
    → IsIdle p → IsFitResult (key_put n p m key value)
fit_key_put n p m g (Err e) value at room hk hv f i = tt
fit_key_put n p m g (Ok key) (Ok value) at room hk hv f i = fit_pair_put n p (record { map = m; key = key; value = value }) g at room
    (hk key refl) (hv value refl) f i
fit_key_put n p m g (Ok key) (Err e) at room hk hv f i = by_new (has_key m key p.file.pairs)
  where
    by_new : (b : Bool) → IsFitResult (if b then Err (Refused n reason.BadPair) else Err (Refused n reason.NotHex))
    by_new true = tt
    by_new false = tt

-- what passes the tests of sizes and of room
pair_passes : (many fits room : Bool) → (if many then Some reason.BadLine else (if fits && room then None else Some reason.BadPair)) ≡ None
    → (fits ≡ true) × (room ≡ true)
pair_passes true fits room e = cc
pair_passes false false room e = cc
pair_passes false true false e = cc
pair_passes false true true e = (refl, refl)

fit_room : (n : ℕ) (p : Part) (m : ℕ) (fits : Bool) (g : MapShape) (r : Result State FileError) →
    (fits ≡ true → pairs_in m p.file.pairs < g.max → IsFitResult r) → IsFitResult (or_refused n (pair_refusal p.file m fits g) r)
fit_room n p m fits g r h = by_refusal (pair_refusal p.file m fits g) refl
  where
    by_refusal : (o : Option Reason) → pair_refusal p.file m fits g ≡ o → IsFitResult (or_refused n o r)
    by_refusal (Some why) e = tt
    by_refusal None e =
        let passed = pair_passes (nat_le most_pairs (length p.file.pairs)) fits (nat_lt (pairs_in m p.file.pairs) g.max) e in
        h passed.0 (below_max (pairs_in m p.file.pairs) g.max passed.1)

-- by digits
half : (digits bytes : List ℕ) (size : ℕ) → length digits / 2 ≡ size → decode_of digits ≡ Ok bytes → length bytes ≡ size
half digits bytes size e h =
    let twice : length digits ≡ 2 * length bytes = (decode_of-ok digits bytes h).2 in
    omega (arith, twice, e)

fit_digits : (n : ℕ) (p : Part) (m : ℕ) (key value : List ℕ) (o : Option MapShape) → slice_get p.file.maps m ≡ o → IsFit p → IsIdle p →
    IsFitResult (pair_added n p m key value o)
fit_digits n p m key value None at f i = tt
fit_digits n p m key value (Some g) at f i =
    fit_room n p m (is_sized (length key / 2) (length value / 2) g) g _ (λ e room.
    (let both = and_both (length key / 2 == g.key) (length value / 2 == g.value) e in
    fit_key_put n p m g (decode_of key) (decode_of value) at room
    (λ bytes h. half key bytes g.key (nat_same (length key / 2) g.key both.0) h)
    (λ bytes h. half value bytes g.value (nat_same (length value / 2) g.value both.1) h) f i))

-- by numbers
full : (size : ℕ) (bytes : List ℕ) → length bytes ≤ size → length (up_to size bytes) ≡ size
full size bytes short = let whole = padded_size size bytes in omega (arith, short, whole)

no_longer : (size : ℕ) (bytes : List ℕ) → nat_le (length bytes) size ≡ true → length bytes ≤ size
no_longer size bytes e = grind (arith, nat_tests)

fit_pair_numbered : (n : ℕ) (p : Part) (m k : ℕ) (bytes : List ℕ) (o : Option MapShape) → slice_get p.file.maps m ≡ o → IsFit p → IsIdle p →
    IsFitResult (pair_numbered n p m k bytes o)
fit_pair_numbered n p m k bytes None at f i = tt
fit_pair_numbered n p m k bytes (Some g) at f i =
    fit_room n p m (is_numbered k (length bytes) g) g _ (λ e room.
    (let both = and_both (nat_lt k (modulus g.key)) (nat_le (length bytes) g.value) e in
    fit_pair_put n p (record { map = m; key = low_bytes g.key k; value = up_to g.value bytes }) g at room
    (length-low_bytes g.key k) (full g.value bytes (no_longer g.value bytes both.1)) f i))

-- ---- values of arrays
fit_value : (p : Part) (a i : ℕ) (g : ArrayShape) (bytes : List ℕ) → slice_get p.file.arrays a ≡ Some g → i < g.max → length bytes ≤ g.value
    → IsFit p → IsIdle p → IsFit (with_data p a (i * array_stride g) bytes)
fit_value p a i g bytes at below short f idle =
    fit_laid p a (i * array_stride g) (i * array_stride g + length bytes) bytes refl f idle
    (ap (size_refusal p.file.cpus (i * array_stride g + length bytes) a) at
    ∙ ap (option_map reason.Shape) (array_passes p.file.cpus (i * array_stride g + length bytes) a g
    ((arrays_in_range p.file.cpus p.file.contents 0 p.file.arrays f.arrays a a g (omega arith) at).0, within)))
  where
    within : i * array_stride g + length bytes ≤ copy_size g
    within =
        let row = row_fits_turned i (array_stride g) (array_stride g) g.max below (omega arith) in
        omega (arith, row, short)

fit_element_put : (n : ℕ) (p : Part) (a : ℕ) (g : ArrayShape) (fits : Bool) (i : Option ℕ) (d : Result (List ℕ) FromHexError) → slice_get
    p.file.arrays a ≡ Some g
    → (fits ≡ true → (bytes : List ℕ) → d ≡ Ok bytes → length bytes ≤ g.value) → IsFit p → IsIdle p → IsFitResult (element_put n p a (value_place a g fits i) d)
fit_element_put n p a g fits None d at short f idle = tt
fit_element_put n p a g fits (Some i) d at short f idle = by_test (nat_lt i g.max && fits) refl
  where
    by_bytes : (r : Result (List ℕ) FromHexError) → d ≡ r → fits ≡ true → i < g.max → IsFitResult (data_laid n p a (i * array_stride g) r)
    by_bytes (Err x) e fit there = tt
    by_bytes (Ok bytes) e fit there = fit_value p a i g bytes at there (short fit bytes e) f idle

    by_test : (b : Bool) → (nat_lt i g.max && fits) ≡ b
        → IsFitResult (element_put n p a (if b then Ok (i * array_stride g) else Err (reason.Shape (ArrayContents a))) d)
    by_test false e = tt
    by_test true e =
        let both = and_both (nat_lt i g.max) fits e in
        by_bytes d refl both.1 (below_max i g.max both.0)

fit_element : (n : ℕ) (p : Part) (a : ℕ) (i : Option ℕ) (value : List ℕ) (o : Option ArrayShape) → slice_get p.file.arrays a ≡ o → IsFit p →
    IsIdle p → IsFitResult (element_added n p a i value o)
fit_element n p a i value None at f idle = tt
fit_element n p a i value (Some g) at f idle =
    fit_element_put n p a g (length value / 2 == g.value) i (decode_of value) at
    (λ e bytes h. (let same = half value bytes g.value (nat_same (length value / 2) g.value e) h in omega (arith, same))) f idle

fit_element_numbered : (n : ℕ) (p : Part) (a i : ℕ) (bytes : List ℕ) (o : Option ArrayShape) → slice_get p.file.arrays a ≡ o → IsFit p →
    IsIdle p → IsFitResult (element_numbered n p a i bytes o)
fit_element_numbered n p a i bytes None at f idle = tt
fit_element_numbered n p a i bytes (Some g) at f idle =
    fit_element_put n p a g (nat_le (length bytes) g.value) (Some i) (Ok (up_to g.value bytes)) at short f idle
  where
    as_ok : List ℕ → Result (List ℕ) FromHexError
    as_ok more = Ok more

    short : nat_le (length bytes) g.value ≡ true → (more : List ℕ) → as_ok (up_to g.value bytes) ≡ Ok more → length more ≤ g.value
    short e more h =
        let same : up_to g.value bytes ≡ more = cc in
        let counted : length (up_to g.value bytes) ≡ length more = ap length same in
        let whole = full g.value bytes (no_longer g.value bytes e) in
        omega (arith, counted, whole)

-- ---- lines `put`
fit_put_line : (n : ℕ) (p : Part) (k : Option ℕ) (key value : List ℕ) → IsFit p → IsIdle p → IsFitResult (put_added n p k key value)
fit_put_line n p None key value f i = tt
fit_put_line n p (Some k) key value f i = by_place (nat_lt k (length p.file.maps))
  where
    by_place : (b : Bool) → IsFitResult (if b then pair_added n p k key value (slice_get p.file.maps k) else element_added n p
        (k - length p.file.maps) (written_number key) value (slice_get p.file.arrays (k - length p.file.maps)))
    by_place true = fit_digits n p k key value (slice_get p.file.maps k) refl f i
    by_place false = fit_element n p (k - length p.file.maps) (written_number key) value (slice_get p.file.arrays (k - length p.file.maps)) refl f i

fit_numbers_line : (n : ℕ) (p : Part) (place : Option ℕ) (key : ℕ) (r : Result (List ℕ) Reason) → IsFit p → IsIdle p → IsFitResult
    (numbers_added n p place key r)
fit_numbers_line n p place key (Err why) f i = tt
fit_numbers_line n p None key (Ok bytes) f i = tt
fit_numbers_line n p (Some k) key (Ok bytes) f i = by_place (nat_lt k (length p.file.maps))
  where
    by_place : (b : Bool) → IsFitResult (if b then pair_numbered n p k key bytes (slice_get p.file.maps k) else element_numbered n p
        (k - length p.file.maps) key bytes (slice_get p.file.arrays (k - length p.file.maps)))
    by_place true = fit_pair_numbered n p k key bytes (slice_get p.file.maps k) refl f i
    by_place false = fit_element_numbered n p (k - length p.file.maps) key bytes (slice_get p.file.arrays (k - length p.file.maps)) refl f i

fit_refused : (n : ℕ) (o : Option Reason) (r : Result State FileError) → IsFitResult r → IsFitResult (or_refused n o r)
fit_refused n None r h = h
fit_refused n (Some why) r h = tt

fit_new : (b : Bool) (n : ℕ) (r : Result State FileError) → IsFitResult r → IsFitResult (if b then Err (Refused n reason.TwiceName) else r)
fit_new true n r f = tt
fit_new false n r f = f

fit_loaded : (p : Part) (name : List ℕ) (program : Loaded) → program.named ≡ named_by p.file → IsFit p → p.file.jobs ≡ [] → IsFit (with_program p name program)
fit_loaded p name program e f j =
    let q = with_program p name program in
    let M : Loaded → Type 0 = λ x. x.named ≡ named_by p.file in
    let J : List Task → Type 0 = λ ts. All (IsJobFor q.file.cpus (length q.file.programs)) ts in
    record {
      cpus = f.cpus;
      count = f.count;
      maps = f.maps;
      array_count = f.array_count;
      arrays = f.arrays;
      contents = f.contents;
      titles = let a = length-append p.titles (name ∷ []) in let b = length-append p.file.programs (program ∷ []) in let c = f.titles in omega (arith, a, b, c);
      runs = record {
        jobs = subst J (sym j) (All-nil (IsJobFor q.file.cpus (length q.file.programs)));
        named = All-append M p.file.programs (program ∷ []) f.runs.named (All-cons M program [] e (All-nil M));
        pairs = f.runs.pairs;
      };
      no_arrays = λ h. absurd (omega arith);
      no_pairs = λ h. absurd (omega arith);
      no_programs = λ h. absurd (omega arith);
      no_jobs = λ h. j;
    }

fit_program : (p : Part) (name : List ℕ) (o : Result Loaded FileError) → LoadedFor (named_by p.file) o → IsFit p → p.file.jobs ≡ [] →
    IsFitResult (program_added p name o)
fit_program p name (Ok program) e f j = fit_loaded p name program e f j
fit_program p name (Err x) e f j = tt

fit_words : (k : Option ℕ) (n : ℕ) (p : Part) (name digits : List ℕ) (r : Result State FileError) → WordsAdd k n p name digits r → IsFit p →
    p.file.jobs ≡ [] → IsFitResult r
fit_words (Some k) n p name digits r e f j = subst IsFitResult (sym e) tt
fit_words None n p name digits r (o, of, e) f j =
    subst IsFitResult (sym e) (fit_program p name o (digits_for n (named_by p.file) (decode_of digits) o of) f j)

fit_listed : (p : Part) (task : Task) → IsJobFor p.file.cpus (length p.file.programs) task → IsFit p → IsFit (with_job p task)
fit_listed p task t f =
    let P : Task → Type 0 = IsJobFor p.file.cpus (length p.file.programs) in
    record {
      cpus = f.cpus;
      count = f.count;
      maps = f.maps;
      array_count = f.array_count;
      arrays = f.arrays;
      contents = f.contents;
      titles = f.titles;
      runs = record {
        jobs = All-append P p.file.jobs (task ∷ []) f.runs.jobs (All-cons P task [] t (All-nil P));
        named = f.runs.named;
        pairs = f.runs.pairs;
      };
      no_arrays = λ h. absurd (omega arith);
      no_pairs = λ h. absurd (omega arith);
      no_programs = λ h. absurd (omega arith);
      no_jobs = λ h. absurd (omega arith);
    }

fit_put : (n : ℕ) (p : Part) (c k : ℕ) (line : JobSaid) (given : Result Input FromHexError) → c < p.file.cpus → k < length p.titles →
    ((input : Input) → given ≡ Ok input → IsShortInput input) → IsFit p → IsFitResult (job_put n p c k line given)
fit_put n p c k line (Ok input) hc hk hi f =
    let P : ℕ → Type 0 = λ m. k < m in
    fit_listed p (record { cpu = c; program = k; budget = number_or DEFAULT_BUDGET line.budget; stage = Waiting input })
    (record { cpu = hc; program = subst P f.titles hk; stage = hi input refl }) f
fit_put n p c k line (Err e) hc hk hi f = tt

fit_job : (n : ℕ) (p : Part) (cpu program : Option ℕ) (line : JobSaid) → ((c : ℕ) → cpu ≡ Some c → c < p.file.cpus) →
    ((k : ℕ) → program ≡ Some k → k < length p.titles)
    → ((c : ℕ) (input : Input) → input_said (length p.file.jobs) c line ≡ Ok input → IsShortInput input) → IsFit p → IsFitResult
    (job_added n p cpu program line)
fit_job n p (Some c) (Some k) line hc hk hi f =
    fit_put n p c k line (input_said (length p.file.jobs) c line) (hc c refl) (hk k refl) (hi c) f
fit_job n p (Some c) None line hc hk hi f = tt
fit_job n p None k line hc hk hi f = tt

adds_fit : (n : ℕ) (p : Part) (s : Said) (r : Result State FileError) → AddsLine n p s r → Comes p s → IsFit p → IsFitResult r
adds_fit n p (Version version) r e c f = subst IsFitResult (sym e)
    (fit_first p version f (idle p 1 f c.0 (omega arith)) (no_arrays_at p 1 f c.0 (omega arith)) (no_pairs_at p 1 f c.0 (omega arith)))
adds_fit n p (Cpus k) r e c f = subst IsFitResult (sym e) (fit_unless n (cpus_refusal k) _
    (fit_cpus p k f (idle p 2 f c.0 (omega arith)) (no_arrays_at p 2 f c.0 (omega arith)) (no_pairs_at p 2 f c.0 (omega arith))))
adds_fit n p (Seed s) r e c f = subst IsFitResult (sym e) (fit_seed p s f (idle p 3 f c.0 (omega arith))
    (no_arrays_at p 3 f c.0 (omega arith)) (no_pairs_at p 3 f c.0 (omega arith)))
adds_fit n p (Map name h) r e c f = subst IsFitResult (sym e) (fit_unless n (map_refusal p name h) _
    (fit_map p name h f (idle p 4 f c.0 (omega arith)) (no_arrays_at p 4 f c.0 (omega arith)) (no_pairs_at p 4 f c.0 (omega arith))))
adds_fit n p (Array name g) r e c f = subst IsFitResult (sym e) (fit_unless n (array_refusal p name g) _
    (fit_array p name g f (idle p 5 f c.0 (omega arith)) (no_pairs_at p 5 f c.0 (omega arith))))
adds_fit n p (Data name at digits) r e c f = subst IsFitResult (sym e) (fit_data n p (array_place p.file name) at digits f (idle p 6 f c.0 (omega arith)))
adds_fit n p (Variable name array at size) r e c f =
    subst IsFitResult (sym e) (fit_refused n (name_refusal p.file name) _
    (fit_variable n p name (array_place p.file array) at size f (idle p 6 f c.0 (omega arith))))
adds_fit n p (Put name key value) r e c f =
    subst IsFitResult (sym e) (fit_put_line n p (place_of name p.file.names.maps) key value f (idle p 6 f c.0 (omega arith)))
adds_fit n p (PutNumbers name key size numbers) r e c f =
    subst IsFitResult (sym e) (fit_numbers_line n p (place_of name p.file.names.maps) key (numbered_bytes size numbers) f (idle p 6 f c.0 (omega arith)))
adds_fit n p (Program name) r e c f =
    subst IsFitResult (sym e) (fit_new (is_there (place_of name p.titles)) n (Ok (Within p n name []))
    (f, f.no_jobs (before p.group 7 8 c.0 (omega arith))))
adds_fit n p (Words name digits) r w c f =
    fit_words (place_of name p.titles) n p name digits r w f (f.no_jobs (before p.group 7 8 c.0 (omega arith)))
adds_fit n p (Job line) r e c f =
    subst IsFitResult (sym e)
    (fit_job n p (served p.file.cpus line.cpu) (place_of line.program p.titles) line
    (served_below p.file.cpus line.cpu) (place_below line.program p.titles)
    (λ k input h. input_short (given_by (length p.file.jobs) line) k line.context line.packet input c.1.0 c.1.1 h) f)

says_fit : (n : ℕ) (p : Part) (w : Result Said Reason) (r : Result State FileError) → AddsOrRefuses n p w r →
    ((s : Said) → w ≡ Ok s → Comes p s) → IsFit p → IsFitResult r
says_fit n p (Ok s) r a c f = adds_fit n p s r a (c s refl) f
says_fit n p (Err why) r e c f = subst IsFitResult (sym e) tt

fields_fit : (n : ℕ) (p : Part) (fs : List (List ℕ)) (r : Result State FileError) → FieldsSay n p fs r → IsFit p → IsFitResult r
fields_fit n p [] r e f = subst IsFitResult (sym e) f
fields_fit n p (g ∷ gs) r a f =
    says_fit n p (placed p g (statement_of p.version (g ∷ gs))) r a (λ s e. comes p g gs s e) f

-- ---- as the reader meets them

pub line_fits : (n : ℕ) (p q : Part) (fs : List (List ℕ)) → FieldsSay n p fs (Ok (Between q)) → IsFit p → IsFit q
line_fits n p q fs a f = fields_fit n p fs (Ok (Between q)) a f

pub opening_fits : (n : ℕ) (p q : Part) (fs : List (List ℕ)) (name : List ℕ) → FieldsSay n p fs (Ok (Within q n name [])) → IsFit p →
    IsFitState (Within q n name [])
opening_fits n p q fs name a f = fields_fit n p fs (Ok (Within q n name [])) a f

pub section_fits : (line : ℕ) (p q : Part) (name text : List ℕ) → Ends line p name text (Ok (Between q)) → IsFitState (Within p line name []) → IsFit q
section_fits line p q name text (o, of, e) (f, j) =
    let F : IsFitResult (Ok (Between q)) = subst IsFitResult (sym e)
    (fit_program p name o (assembly_for line (named_by p.file) (names_for p) text o of) f j) in F

-- after one answer, and then another
pub then_fits : {X : Type 0} (r : Result X FileError) (P Q S : Type 0) → (P → Q) → OnOk r (Q → S) → OnOk r (P → S)
then_fits (Ok x) P Q S f g = λ h. g (f h)
then_fits (Err e) P Q S f g = g

-- ---- whole files

belongs_fit : (end : Bool) (p : Part) (from : ℕ) (name : List ℕ) (ls : List (List ℕ)) (l : List ℕ) (r : Result State FileError) → Belongs
    end p from name ls l r → IsFit p → p.file.jobs ≡ [] → IsFitResult r
belongs_fit true p from name ls l r (o, of, e) f j =
    subst IsFitResult (sym e) (fit_program p name o (assembly_for from (named_by p.file) (names_for p) (text_of_lines ls) o of) f j)
belongs_fit false p from name ls l r e f j = subst IsFitResult (sym e) (f, j)

reads_fit : (n : ℕ) (s : State) (l : List ℕ) (r : Result State FileError) → ReadsLine n s l r → IsFitState s → IsFitResult r
reads_fit n (Between p) l r a f = fields_fit n p (fields_of l) r a f
reads_fit n (Within p from name ls) l r a (f, j) = belongs_fit (is_end l) p from name ls l r a f j

finished_runs : (s : State) (f : File) → Ok f ≡ finished s → IsFitState s → CanRun f
finished_runs (Within p from name ls) f e h = cc
finished_runs (Between p) f e h = by_test (p.group == 0) e
  where
    by_test : (b : Bool) → Ok f ≡ (if b then Err (Refused 1 reason.BadFirstLine) else Ok p.file) → CanRun f
    by_test true e = cc
    by_test false e = let same : p.file ≡ f = cc in subst CanRun same h.runs

abbrev Follow : ℕ → List (List ℕ) → File → Result State FileError → Type 0
Follow n ls f t = MatchResult t (λ u. AreRead (n + 1) u ls (Ok f)) (λ e. Ok f ≡ Err e)

then_runs : (n : ℕ) (ls : List (List ℕ)) (f : File) (t : Result State FileError) → IsFitResult t → Follow n ls f t →
    ((u : State) → AreRead (n + 1) u ls (Ok f) → IsFitState u → CanRun f) → CanRun f
then_runs n ls f (Ok u) k m more = more u m k
then_runs n ls f (Err e) k m more = cc

all_run : (ls : List (List ℕ)) (n : ℕ) (s : State) (f : File) → AreRead n s ls (Ok f) → IsFitState s → CanRun f
all_run [] n s f e h = finished_runs s f e h
all_run (l ∷ ls) n s f (t, r, m) h = then_runs n ls f t (reads_fit n s l t r h) m (λ u a k. all_run ls (n + 1) u f a k)

pub files_can_run : FilesCanRun
files_can_run = λ text f r. all_run (lines_of text) 1 (Between nothing) f r fit_nothing

-- a store can have such a shape
shape_passes : (c m : Bool) (o : Option ShapeError) → c ≡ false → m ≡ false → o ≡ None →
    (if c then Some CpuCount else (if m then Some TooManyMaps else o)) ≡ None
shape_passes true m o c e h = cc
shape_passes false true o c e h = cc
shape_passes false false o c e h = h

pub never_refused : (p : Part) (why : ShapeError) → IsFit p → first_of (shape_tests p.file.cpus p.file.maps) ≡ Some why → ⊥
never_refused p why f e =
    let none : first_of (shape_tests p.file.cpus p.file.maps) ≡ None = shape_passes _ _ _ f.cpus f.count f.maps in
    impossible (sym none ∙ e)
  where
    impossible : None ≡ Some why → ⊥
    impossible h = cc
