-- What a line says determines its first word, and so which lines may be before it.
use Rattle.std.proofs.Common.{◌≡◌, ℕ, zero, suc, ◌*◌, ◌-◌, ◌%◌, ◌^◌, ◌<◌, ◌≤◌, ◌==◌, nat_lt, nat_le, Bool, true, false, not, ◌&&◌, ◌||◌}
use Rattle.std.proofs.Common.{if◌then◌else◌, List, [], ◌∷◌, ◌++◌, length, map, Option, Some, None, Result, Ok, Err, ◌⊎◌, inl, inr, refl}
use Rattle.std.proofs.Common.{sym, ap, subst, ◌∙◌, arith}
use Rattle.std.specs.Prelude.{slice_get, take}
use Rattle.std.specs.List.{before_first}
use Rattle.std.proofs.lemmas.Bool.Decides.{nat_tests}
use Rattle.std.proofs.lemmas.Slice.Eq.{bytes_eq-Decides}
use Rattle.bpf_mem.specs.Limits.{max_context, max_packet}
use Rattle.bpf_file.specs.declared.error.Reason.{Reason}
use Rattle.bpf_file.specs.declared.error.Reason.TheVariants as reason
use Rattle.bpf_file.specs.declared.form.Part.{Part as Piece}
use Rattle.bpf_file.specs.declared.form.Part.TheVariants.{Word, Name, Context, Packet}
use Rattle.bpf_file.specs.declared.key.Key.{Key}
use Rattle.bpf_file.specs.declared.key.Key.TheVariants as key
use Rattle.bpf_file.specs.declared.line.LineError.{LineError}
use Rattle.bpf_file.specs.declared.line.LineError.TheVariants as line
use Rattle.bpf_file.specs.declared.packet.Hook.{Hook}
use Rattle.bpf_file.specs.declared.packet.Hook.TheVariants.{Xdp, Tc}
use Rattle.bpf_file.specs.Key.{key_text, is_key}
use Rattle.bpf_file.specs.Form.{is_part, has_form, field_at, version_form, second_version_form, third_version_form, cpus_form, seed_form}
use Rattle.bpf_file.specs.Form.{map_form, masked_map_form, growing_map_form, growing_masked_map_form, array_form, per_cpu_form, frozen_form}
use Rattle.bpf_file.specs.Form.{variable_form, data_form, put_form, put_numbers_form, program_form, words_form, job_form, budget_form}
use Rattle.bpf_file.specs.Form.{context_form, time_form, random_form, xdp_form, tc_form}
use Rattle.bpf_shared.specs.Access.{bytes_in}
use Rattle.bpf_shared.specs.declared.events.Size.{Size}
use Rattle.bpf_base.specs.declared.budget.TheConstants.{MAX_BUDGET}
use Rattle.bpf_file.specs.declared.version.Version.{Version as Edition}
use Rattle.bpf_file.specs.Version.{may_grow, has_arrays}
use Rattle.bpf_file.specs.Statement.{Said, Version, Cpus, Seed, Map, Array, Data, Variable, Put, PutNumbers, Program, Words, Job}
use Rattle.bpf_file.specs.Statement.{most_count, count_at, with_number, map_said, array_said, size_of, variable_at, variable_said}
use Rattle.bpf_file.specs.Statement.{size_named, key_number, is_open, with_size, numbers_said, work_of, arrays_of, growing_of, statement_of}
use Rattle.bpf_file.specs.Statement.{JobSaid, with_job, last_two, before_two, last_number, timed_of, seeded_of, packet_for, with_packet}
use Rattle.bpf_file.specs.Statement.{packeted_of}
use Rattle.bpf_file.specs.Parts.{Part, group_of, is_in_order, is_full}
use Rattle.bpf_file.specs.declared.draft.Next.{Next}
use Rattle.bpf_file.specs.declared.error.FileError.{FileError}
use Rattle.bpf_file.specs.declared.error.FileError.TheVariants.{Refused, OutOfMemory}
use Rattle.bpf_file.specs.Reading.{AddsOrRefuses, FieldsSay}
use Rattle.bpf_file.specs.Private.Answers.{OrMemory}
use Rattle.bpf_file.specs.Private.Drafts.{IsShortSaid, after, Added}
use Rattle.bpf_file.specs.Rows.{first_said, later_said, may_stand, placed}
use Rattle.bpf_file.proofs.Names.{and_both}

-- ---- the group of what a line says

abbrev pub said_group : Said → ℕ
said_group (Version version) = 1
said_group (Cpus n) = 2
said_group (Seed n) = 3
said_group (Map name h) = 4
said_group (Array name g) = 5
said_group (Data name at digits) = 6
said_group (Variable name array at size) = 6
said_group (Put name key value) = 6
said_group (PutNumbers name key size numbers) = 6
said_group (Program name) = 7
said_group (Words name digits) = 7
said_group (Job line) = 8

-- what a line of this first word may say
abbrev Tells : List ℕ → Said → Type 0
Tells f s = (group_of f ≡ said_group s) × IsShortSaid s

-- what is said, if anything is
abbrev TellsAll : List ℕ → Result Said LineError → Type 0
TellsAll f (Ok s) = Tells f s
TellsAll f (Err e) = Unit {0}

by_word : (k : Key) (f : List ℕ) → is_key k f ≡ true → f ≡ key_text k
by_word k f e = sym ((bytes_eq-Decides (key_text k) f).0 e)

-- the fields of a form's line, one by one
part_at : (ps : List Piece) (fs : List (List ℕ)) (i : ℕ) (q : Piece) → has_form ps fs ≡ true → slice_get ps i ≡ Some q → is_part q (field_at fs i) ≡ true
part_at [] fs i q e h = cc
part_at (p ∷ ps) [] i q e h = cc
part_at (p ∷ ps) (f ∷ fs) zero q e h =
    let both = and_both (is_part p f) (has_form ps fs) e in
    let same : p ≡ q = cc in
    let P : Piece → Type 0 = λ x. is_part x f ≡ true in
    subst P same both.0
part_at (p ∷ ps) (f ∷ fs) (suc i) q e h =
    let both = and_both (is_part p f) (has_form ps fs) e in
    part_at ps fs i q both.1 h

-- the first word of a form's line
worded : (k : Key) (ps : List Piece) (f : List ℕ) (fs : List (List ℕ)) (g : ℕ) → slice_get ps 0 ≡ Some (Word k) → group_of (key_text k) ≡ g
    → has_form ps (f ∷ fs) ≡ true → group_of f ≡ g
worded k ps f fs g at e h = ap group_of (by_word k f (part_at ps (f ∷ fs) 0 (Word k) h at)) ∙ e

either : (f : List ℕ) (b : Bool) (r q : Result Said LineError) → (b ≡ true → TellsAll f r) → TellsAll f q → TellsAll f (if b then r else q)
either f true r q h k = h refl
either f false r q h k = k

numbered : (f : List ℕ) (r : Result ℕ LineError) (said : ℕ → Result Said LineError) → ((n : ℕ) → TellsAll f (said n)) → TellsAll f (with_number r said)
numbered f (Ok n) said h = h n
numbered f (Err e) said h = tt

-- ---- each line

maps_tell : (f : List ℕ) (fields : List (List ℕ)) (mask : ℕ) (grow : Bool) → group_of f ≡ 4 → TellsAll f (map_said fields mask grow)
maps_tell f fields mask grow e =
    numbered f (count_at fields 3 most_count) _ (λ key.
    numbered f (count_at fields 5 most_count) _ (λ value.
    numbered f (count_at fields 7 most_count) _ (λ max.
    numbered f (count_at fields 9 most_count) _ (λ spare. (e, tt)))))

arrays_tell : (f : List ℕ) (fields : List (List ℕ)) (per_cpu frozen : Bool) → group_of f ≡ 5 → TellsAll f (array_said fields per_cpu frozen)
arrays_tell f fields per_cpu frozen e =
    numbered f (count_at fields 3 most_count) _ (λ value.
    numbered f (count_at fields 5 most_count) _ (λ max. (e, tt)))

sized_tell : (f name array : List ℕ) (at : ℕ) (size : Option Size) → group_of f ≡ 6 → TellsAll f (variable_at name array at size)
sized_tell f name array at None e = tt
sized_tell f name array at (Some size) e = either f (at % bytes_in size == 0) _ _ (λ h. (e, tt)) tt

variables_tell : (f : List ℕ) (fields : List (List ℕ)) → group_of f ≡ 6 → TellsAll f (variable_said fields)
variables_tell f fields e =
    numbered f (count_at fields 3 most_count) _ (λ at.
    numbered f (count_at fields 4 most_count) _ (λ bytes.
    sized_tell f (field_at fields 1) (field_at fields 2) at (size_of bytes) e))

sizes_tell : (f name : List ℕ) (k : ℕ) (size : Option Size) (numbers : List ℕ) → group_of f ≡ 6 → TellsAll f
    (with_size size (λ s. Ok (PutNumbers name k s numbers)))
sizes_tell f name k None numbers e = tt
sizes_tell f name k (Some size) numbers e = (e, tt)

numbers_tell : (f : List ℕ) (fields : List (List ℕ)) → group_of f ≡ 6 → TellsAll f (numbers_said fields)
numbers_tell f fields e =
    let name = before_first is_open (field_at fields 1) in
    either f (is_part Name name) _ _ (λ h.
    numbered f (key_number (field_at fields 1)) _ (λ k.
    sizes_tell f name k (size_named (field_at fields 3)) (field_at fields 5) e)) tt

short_at : (ps : List Piece) (fs : List (List ℕ)) (i : ℕ) → has_form ps fs ≡ true → slice_get ps i ≡ Some Context → length (field_at fs i) ≤ 2 * max_context
short_at ps fs i e h = let d = part_at ps fs i Context e h in grind (arith, nat_tests)

jobs_tell : (f : List ℕ) (fs : List (List ℕ)) → TellsAll f (work_of (f ∷ fs))
jobs_tell f fs =
    either f (has_form program_form (f ∷ fs)) _ _ (λ h. (worded key.Program program_form f fs 7 refl refl h, tt))
    (either f (has_form words_form (f ∷ fs)) _ _ (λ h. (worded key.Program words_form f fs 7 refl refl h, tt))
    (either f (has_form job_form (f ∷ fs)) _ _ (λ h. (worded key.Job job_form f fs 8 refl refl h, (tt, tt)))
    (either f (has_form (job_form ++ budget_form) (f ∷ fs)) _ _ (λ h.
    numbered f (count_at (f ∷ fs) 4 MAX_BUDGET) _ (λ n. (worded key.Job (job_form ++ budget_form) f fs 8 refl refl h, (tt, tt))))
    (either f (has_form (job_form ++ context_form) (f ∷ fs)) _ _ (λ h.
    (worded key.Job (job_form ++ context_form) f fs 8 refl refl h, (short_at (job_form ++ context_form) (f ∷ fs) 4 h refl, tt)))
    (either f (has_form (job_form ++ budget_form ++ context_form) (f ∷ fs)) _ _ (λ h.
    numbered f (count_at (f ∷ fs) 4 MAX_BUDGET) _ (λ n.
    (worded key.Job (job_form ++ budget_form ++ context_form) f fs 8 refl refl h, (short_at (job_form ++ budget_form ++ context_form) (f ∷ fs) 6 h refl, tt))))
    tt)))))

-- ---- a job with more at the end of its line

more_tells : (f : List ℕ) (said : Result Said LineError) (more : JobSaid → Result Said LineError) →
    ((job : JobSaid) → Tells f (Job job) → TellsAll f (more job)) → TellsAll f said → TellsAll f (with_job said more)
more_tells f (Ok (Job job)) more h t = h job t
more_tells f (Ok _) more h t = tt
more_tells f (Err e) more h t = tt

front_tells : (n : ℕ) (f : List ℕ) (fs : List (List ℕ)) → TellsAll f (work_of (take n (f ∷ fs)))
front_tells zero f fs = tt
front_tells (suc n) f fs = jobs_tell f (take n fs)

-- the digits of a packet are few
brief_at : (fs : List (List ℕ)) (k : Key) → has_form (Word k ∷ Packet ∷ []) fs ≡ true → length (field_at fs 1) ≤ 2 * max_packet
brief_at fs k h = let d = part_at (Word k ∷ Packet ∷ []) fs 1 Packet h refl in grind (arith, nat_tests)

in_place : (f : List ℕ) (job : JobSaid) (packet : Hook × List ℕ) (context : Option (List ℕ)) → length packet.1 ≤ 2 * max_packet → Tells f
    (Job job) → TellsAll f (packet_for packet job context)
in_place f job packet None few t = (t.0, (t.1.0, few))
in_place f job packet (Some digits) few t = tt

hook_tells : (hook : Hook) (f : List ℕ) (fs : List (List ℕ)) → length (field_at (last_two (f ∷ fs)) 1) ≤ 2 * max_packet → TellsAll f (with_packet hook (f ∷ fs))
hook_tells hook f fs few =
    more_tells f (work_of (before_two (f ∷ fs))) _ (λ job t. in_place f job (hook, field_at (last_two (f ∷ fs)) 1) job.context few t)
    (front_tells (length (f ∷ fs) - 2) f fs)

packeted_tell : (f : List ℕ) (fs : List (List ℕ)) → TellsAll f (packeted_of (f ∷ fs))
packeted_tell f fs =
    either f (has_form xdp_form (last_two (f ∷ fs))) _ _ (λ h. hook_tells Xdp f fs (brief_at (last_two (f ∷ fs)) key.Xdp h))
    (either f (has_form tc_form (last_two (f ∷ fs))) _ _ (λ h. hook_tells Tc f fs (brief_at (last_two (f ∷ fs)) key.Tc h))
    (jobs_tell f fs))

packeted_front_tells : (n : ℕ) (f : List ℕ) (fs : List (List ℕ)) → TellsAll f (packeted_of (take n (f ∷ fs)))
packeted_front_tells zero f fs = tt
packeted_front_tells (suc n) f fs = packeted_tell f (take n fs)

timed_tell : (f : List ℕ) (fs : List (List ℕ)) → TellsAll f (timed_of (f ∷ fs))
timed_tell f fs =
    either f (has_form time_form (last_two (f ∷ fs))) _ _ (λ h.
    more_tells f (packeted_of (before_two (f ∷ fs))) _ (λ job t. numbered f (last_number (f ∷ fs)) _ (λ n. t))
    (packeted_front_tells (length (f ∷ fs) - 2) f fs))
    (packeted_tell f fs)

timed_front_tells : (n : ℕ) (f : List ℕ) (fs : List (List ℕ)) → TellsAll f (timed_of (take n (f ∷ fs)))
timed_front_tells zero f fs = tt
timed_front_tells (suc n) f fs = timed_tell f (take n fs)

seeded_tell : (f : List ℕ) (fs : List (List ℕ)) → TellsAll f (seeded_of (f ∷ fs))
seeded_tell f fs =
    either f (has_form random_form (last_two (f ∷ fs))) _ _ (λ h.
    more_tells f (timed_of (before_two (f ∷ fs))) _ (λ job t. numbered f (last_number (f ∷ fs)) _ (λ n. t))
    (timed_front_tells (length (f ∷ fs) - 2) f fs))
    (timed_tell f fs)

all_arrays_tell : (f : List ℕ) (fs : List (List ℕ)) → TellsAll f (arrays_of (f ∷ fs))
all_arrays_tell f fs =
    either f (has_form array_form (f ∷ fs)) _ _ (λ h.
    arrays_tell f (f ∷ fs) false false (worded key.Array array_form f fs 5 refl refl h))
    (either f (has_form (array_form ++ per_cpu_form) (f ∷ fs)) _ _ (λ h.
    arrays_tell f (f ∷ fs) true false (worded key.Array (array_form ++ per_cpu_form) f fs 5 refl refl h))
    (either f (has_form (array_form ++ frozen_form) (f ∷ fs)) _ _ (λ h.
    arrays_tell f (f ∷ fs) false true (worded key.Array (array_form ++ frozen_form) f fs 5 refl refl h))
    (either f (has_form (array_form ++ per_cpu_form ++ frozen_form) (f ∷ fs)) _ _ (λ h.
    arrays_tell f (f ∷ fs) true true (worded key.Array (array_form ++ per_cpu_form ++ frozen_form) f fs 5 refl refl h))
    (either f (has_form data_form (f ∷ fs)) _ _ (λ h.
    numbered f (count_at (f ∷ fs) 2 most_count) _ (λ at. (worded key.Data data_form f fs 6 refl refl h, tt)))
    (either f (has_form variable_form (f ∷ fs)) _ _ (λ h.
    variables_tell f (f ∷ fs) (worded key.Variable variable_form f fs 6 refl refl h))
    (either f (has_form put_form (f ∷ fs)) _ _ (λ h. (worded key.Put put_form f fs 6 refl refl h, tt))
    (either f (has_form put_numbers_form (f ∷ fs)) _ _ (λ h.
    numbers_tell f (f ∷ fs) (worded key.Put put_numbers_form f fs 6 refl refl h))
    (seeded_tell f fs))))))))

grows_tell : (version : Edition) (f : List ℕ) (fs : List (List ℕ)) → TellsAll f (growing_of version (f ∷ fs))
grows_tell version f fs =
    either f (has_form growing_map_form (f ∷ fs)) _ _ (λ h.
    maps_tell f (f ∷ fs) (2 ^ 32 - 1) true (worded key.Map growing_map_form f fs 4 refl refl h))
    (either f (has_form growing_masked_map_form (f ∷ fs)) _ _ (λ h.
    numbered f (count_at (f ∷ fs) 11 most_count) _ (λ mask.
    maps_tell f (f ∷ fs) mask true (worded key.Map growing_masked_map_form f fs 4 refl refl h)))
    (either f (has_arrays version) _ _ (λ h. all_arrays_tell f fs) (jobs_tell f fs)))

lines_tell : (version : Edition) (f : List ℕ) (fs : List (List ℕ)) → TellsAll f (statement_of version (f ∷ fs))
lines_tell version f fs =
    either f (has_form version_form (f ∷ fs)) _ _ (λ h. (worded key.RunFile version_form f fs 1 refl refl h, tt))
    (either f (has_form second_version_form (f ∷ fs)) _ _ (λ h. (worded key.RunFile second_version_form f fs 1 refl refl h, tt))
    (either f (has_form third_version_form (f ∷ fs)) _ _ (λ h. (worded key.RunFile third_version_form f fs 1 refl refl h, tt))
    (either f (has_form cpus_form (f ∷ fs)) _ _ (λ h.
    numbered f (count_at (f ∷ fs) 1 most_count) _ (λ n. (worded key.Cpus cpus_form f fs 2 refl refl h, tt)))
    (either f (has_form seed_form (f ∷ fs)) _ _ (λ h.
    numbered f (count_at (f ∷ fs) 1 (2 ^ 64 - 1)) _ (λ n. (worded key.Seed seed_form f fs 3 refl refl h, tt)))
    (either f (has_form map_form (f ∷ fs)) _ _ (λ h.
    maps_tell f (f ∷ fs) (2 ^ 32 - 1) false (worded key.Map map_form f fs 4 refl refl h))
    (either f (has_form masked_map_form (f ∷ fs)) _ _ (λ h.
    numbered f (count_at (f ∷ fs) 11 most_count) _ (λ mask.
    maps_tell f (f ∷ fs) mask false (worded key.Map masked_map_form f fs 4 refl refl h)))
    (either f (may_grow version) _ _ (λ h. grows_tell version f fs) (jobs_tell f fs))))))))

-- ---- where it may be

-- after a group before its own, or after its own where that has many lines
abbrev pub IsInPlace : ℕ → ℕ → Type 0
IsInPlace last group = (last < group) ⊎ ((last ≡ group) × (4 ≤ group))

-- a line that says this may follow so much of a file
abbrev pub Comes : Part → Said → Type 0
Comes p s = IsInPlace p.group (said_group s) × IsShortSaid s

in_order : (a b : ℕ) → is_in_order a b ≡ true → IsInPlace a b
in_order a b e = by_test (nat_lt a b) refl e
  where
    by_test : (t : Bool) → nat_lt a b ≡ t → (t || ((a == b) && nat_le 4 b)) ≡ true → IsInPlace a b
    by_test true h e = inl (grind (arith, nat_tests))
    by_test false h e =
        let both = and_both (a == b) (nat_le 4 b) e in
        inr (grind (arith, nat_tests), grind (arith, nat_tests))

pub before : (last group n : ℕ) → IsInPlace last group → group < n → last < n
before last group n (inl h) g = omega arith
before last group n (inr (h, k)) g = omega arith

no_said : (r : Result Said Reason) (s : Said) → r ≡ Err reason.BadFirstLine → r ≡ Ok s → ⊥
no_said r s e f = cc

only_version : (r : Result Said LineError) (s : Said) → first_said r ≡ Ok s → (version : Edition) × (s ≡ Version version)
only_version (Ok (Version version)) s e = (version, cc)
only_version (Ok (Cpus c)) s e = absurd (no_said (first_said (Ok (Cpus c))) s refl e)
only_version (Ok (Seed n)) s e = absurd (no_said (first_said (Ok (Seed n))) s refl e)
only_version (Ok (Map name h)) s e = absurd (no_said (first_said (Ok (Map name h))) s refl e)
only_version (Ok (Array name g)) s e = absurd (no_said (first_said (Ok (Array name g))) s refl e)
only_version (Ok (Data name at digits)) s e = absurd (no_said (first_said (Ok (Data name at digits))) s refl e)
only_version (Ok (Variable name array at size)) s e = absurd (no_said (first_said (Ok (Variable name array at size))) s refl e)
only_version (Ok (Put name key value)) s e = absurd (no_said (first_said (Ok (Put name key value))) s refl e)
only_version (Ok (PutNumbers name key size numbers)) s e = absurd (no_said (first_said (Ok (PutNumbers name key size numbers))) s refl e)
only_version (Ok (Program name)) s e = absurd (no_said (first_said (Ok (Program name))) s refl e)
only_version (Ok (Words name digits)) s e = absurd (no_said (first_said (Ok (Words name digits))) s refl e)
only_version (Ok (Job line)) s e = absurd (no_said (first_said (Ok (Job line))) s refl e)
only_version (Err x) s e = absurd (no_said (first_said (Err x)) s refl e)

later : (r : Result Said LineError) (s : Said) → later_said r ≡ Ok s → r ≡ Ok s
later (Ok t) s e = cc
later (Err line.BadForm) s e = cc
later (Err line.BadNumber) s e = cc
later (Err line.OutOfMemory) s e = cc

no_group : (g : ℕ) → (g == 0) ≡ true → g < 1
no_group g e = grind (arith, nat_tests)

placed_comes : (p : Part) (f : List ℕ) (r : Result Said LineError) (s : Said) → TellsAll f r → placed p f r ≡ Ok s → Comes p s
placed_comes p f r s tells e = by_first (p.group == 0) refl e
  where
    by_stand : (b : Bool) → may_stand p (group_of f) ≡ b → (if b then later_said r else Err reason.BadLine) ≡ Ok s → Comes p s
    by_stand true h e =
        let T : Result Said LineError → Type 0 = TellsAll f in
        let told : Tells f s = subst T (later r s e) tells in
        let both = and_both (is_in_order p.group (group_of f)) (not (is_full p (group_of f))) h in
        let P : ℕ → Type 0 = λ g. IsInPlace p.group g in
        (subst P told.0 (in_order p.group (group_of f) both.0), told.1)
    by_stand false h e = cc

    by_first : (b : Bool) → (p.group == 0) ≡ b → (if b then first_said r else
        (if may_stand p (group_of f) then later_said r else Err reason.BadLine)) ≡ Ok s → Comes p s
    by_first true h e =
        let C : Said → Type 0 = Comes p in
        subst C (sym (only_version r s e).1) (inl (no_group p.group h), tt)
    by_first false h e = by_stand (may_stand p (group_of f)) refl e

pub comes : (p : Part) (f : List ℕ) (fs : List (List ℕ)) (s : Said) → placed p f (statement_of p.version (f ∷ fs)) ≡ Ok s → Comes p s
comes p f fs s e = placed_comes p f (statement_of p.version (f ∷ fs)) s (lines_tell p.version f fs) e

-- what a line of fields says, as the reader meets it
pub short_said : {A : Type 0} (p : Part) (fields : List A) (g : A → List ℕ) (s : Said) → 1 ≤ length fields
    → Ok s ≡ placed p (field_at (map g fields) 0) (statement_of p.version (map g fields)) → IsShortSaid s
short_said p [] g s some e = absurd (omega (arith, some))
short_said p (f ∷ fs) g s some e = (comes p (g f) (map g fs) s (sym e)).1

-- what a line says is what its fields say
pub fields_say : {A : Type 0} (n : ℕ) (p q : Part) (fields : List A) (g : A → List ℕ) (s : Said) (r : Result Next FileError) → 1 ≤ length fields
    → Ok s ≡ placed p (field_at (map g fields) 0) (statement_of p.version (map g fields)) → Added n p s q r
    → OrMemory (λ a. FieldsSay n p (map g fields) (after n q a)) r
fields_say n p q [] g s r some e h = absurd (omega (arith, some))
fields_say n p q (f ∷ fs) g s (Ok x) some e h =
    let P : Result Said Reason → Type 0 = λ w. AddsOrRefuses n p w (after n q (Ok x)) in
    subst P e h
fields_say n p q (f ∷ fs) g s (Err OutOfMemory) some e h = tt
fields_say n p q (f ∷ fs) g s (Err (Refused m why)) some e h =
    let P : Result Said Reason → Type 0 = λ w. AddsOrRefuses n p w (after n q (Err (Refused m why))) in
    subst P e h
