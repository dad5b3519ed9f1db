-- What states lead to, in parts by a hash, and states in files. Our own choice.
use Rattle.std.specs.Prelude.{◌≡◌, ◌≢◌, ◌/◌, ◌%◌, ◌^◌, ◌<◌, ◌⊎◌, ◌++◌, ◌==◌, ℕ, zero, suc, Some, List, [], ◌∷◌, if◌then◌else◌, codes}
use Rattle.std.specs.Prelude.{drop, filter, fold, length, map, slice_get, string_bytes}
use Rattle.std.specs.Fmt.{decimal}
use Rattle.std.specs.List.{flat_map, list_any, AllByRecursion}
use Rattle.std.specs.Str.{bytes_eq}
use Rattle.std.specs.Int.{to_le_bytes, w32, w64}
use Rattle.bpf_names.specs.Names.{Names}
use Rattle.bpf_machine.specs.Hashes.{mix}
use Rattle.bpf_expand.specs.declared.calls.Called.{Called}
use Rattle.bpf_expand.specs.declared.calls.Called.TheVariants as called
use Rattle.bpf_expand.specs.declared.origin.Origin.{Origin}
use Rattle.bpf_expand.specs.declared.parts.Parted.{Parted}
use Rattle.bpf_expand.specs.declared.successor.Successor.{Successor}
use Rattle.bpf_expand.specs.Filter.{IsReportIn}
use Rattle.bpf_expand.specs.Lines.{end_line}
use Rattle.bpf_expand.specs.State.{Host, AreSuccessors, IsNoState, IsSuccessor}

-- ---- files of states
-- a state in a file: how many bytes it has, in four, and these
abbrev pub record_of : List ℕ → List ℕ
record_of bytes = to_le_bytes w32 (length bytes) ++ bytes

-- one after the other
abbrev pub records_of : List (List ℕ) → List ℕ
records_of states = flat_map record_of states

-- four bytes say how many bytes each has
abbrev pub AreShort : List (List ℕ) → Type 0
AreShort states = AllByRecursion (λ bytes. length bytes < 2 ^ 32) states

-- ---- each once
-- a state after those that are there, unless it is one of them
abbrev pub put : List (List ℕ) → List ℕ → List (List ℕ)
put states bytes = if list_any (bytes_eq bytes) states then states else states ++ bytes ∷ []

-- each of some after those that are there, unless it is one of them or of those before it
abbrev pub put_all : List (List ℕ) → List (List ℕ) → List (List ℕ)
put_all states more = fold put states more

-- those of some states that aren't known, each once, in the order in which they come
abbrev pub fresh : (known led : List (List ℕ)) → List (List ℕ)
fresh known led = drop (length (put_all [] known)) (put_all (put_all [] known) led)

-- ---- parts
-- the part of a state among n, by the upper half of a hash of its bytes
abbrev pub part_of : ℕ → List ℕ → ℕ
part_of n bytes = fold mix 0 bytes / 2 ^ 32 % n

-- those of the k-th part of n, in their order
abbrev pub in_part : ℕ → ℕ → List (List ℕ) → List (List ℕ)
in_part n k states = filter (λ bytes. part_of n bytes == k) states

-- n parts, each of which has the records of its states, and no others
abbrev pub AreParts : ℕ → List (List ℕ) → List (List ℕ) → Type 0
AreParts n states parts = (length parts ≡ n)
    × ((k : ℕ) → k < n → slice_get parts k ≡ Some (records_of (in_part n k states)))

-- ---- what is found
-- what CPUs' turns lead to from a state, by rising CPU; or its report, where no CPU has work
abbrev pub IsFound : Host → Names → List ℕ → (led ends : List (List ℕ)) → Type 0
IsFound h names bytes led ends =
    ((found : List Successor) × AreSuccessors h bytes found × (found ≢ [])
    × (led ≡ map (λ s. s.bytes.items) found) × (ends ≡ []))
    ⊎ ((report : List ℕ) × IsReportIn h names bytes report × (led ≡ [])
    × (ends ≡ report ∷ []))

-- of each of the first n states, one after the other
abbrev pub AreFound : Host → Names → List (List ℕ) → ℕ → (led ends : List (List ℕ)) → Type 0
AreFound h names read zero led ends = (led ≡ []) × (ends ≡ [])
AreFound h names read (suc n) led ends = (bytes : List ℕ) × (slice_get read n ≡ Some bytes)
    × (before more those these : List (List ℕ)) × AreFound h names read n before those
    × IsFound h names bytes more these × (led ≡ before ++ more) × (ends ≡ those ++ these)

-- a call that read these states, and knew others beside them, found those new ones, and these ends
pub record IsCall (h : Host) (names : Names) (read seen new ends : List (List ℕ)) : Type 0 where
  pub led : List (List ℕ)
  pub all : List (List ℕ)
  pub found : AreFound h names read (length read) led all
  pub new_is : new ≡ fresh (read ++ seen) led
  pub ends_are : ends ≡ put_all [] all

-- ---- where it comes from
-- one of the second for each of the first, in their order
abbrev pub ArePaired : {A B : Type 0} → (A → B → Type 0) → List A → List B → Type 0
ArePaired R [] [] = Unit {0}
ArePaired R [] (y ∷ ys) = ⊥
ArePaired R (x ∷ xs) [] = ⊥
ArePaired R (x ∷ xs) (y ∷ ys) = R x y × ArePaired R xs ys

-- the origin's CPU leads to the state from the one of its number among those that were read
abbrev pub LeadsTo : Host → (read : List (List ℕ)) → Origin → List ℕ → Type 0
LeadsTo h read origin next = (bytes : List ℕ) × (slice_get read origin.number ≡ Some bytes)
    × IsSuccessor h bytes origin.cpu origin.ahead next

-- the state of this number has the report
abbrev pub EndsWith : Host → Names → (read : List (List ℕ)) → ℕ → List ℕ → Type 0
EndsWith h names read number report = (bytes : List ℕ) × (slice_get read number ≡ Some bytes)
    × IsReportIn h names bytes report

-- an origin in a file: its number, its CPU, and how many turns are made ahead, in eight bytes each
abbrev pub origin_bytes : Origin → List ℕ
origin_bytes origin = to_le_bytes w64 origin.number
    ++ (to_le_bytes w64 origin.cpu ++ to_le_bytes w64 origin.ahead)

-- n parts, each of which has an origin of each of its states, and no others
abbrev pub AreOrigins : Host → (read : List (List ℕ)) → ℕ → (states parts : List (List ℕ)) → Type 0
AreOrigins h read n states parts = (length parts ≡ n)
    × ((k : ℕ) → k < n → (origins : List Origin) × (slice_get parts k ≡ Some (flat_map origin_bytes origins))
    × ArePaired (LeadsTo h read) origins (in_part n k states))

-- ---- what is printed
-- reports, each with the number of a state that has it
abbrev pub end_lines : List (List ℕ) → List ℕ → List ℕ
end_lines [] numbers = []
end_lines (report ∷ ends) [] = []
end_lines (report ∷ ends) (number ∷ numbers) = end_line report number ++ end_lines ends numbers

-- how many states were read and found
abbrev pub counts_line : (read new : ℕ) → List ℕ
counts_line read new = decimal read ++ (codes " states, " ++ (decimal new ++ codes " new\n"))

-- the parts of a call's new states, and their origins; and its reports and counts
abbrev pub IsParted : Host → Names → ℕ → (read seen : List (List ℕ)) → Parted → Type 0
IsParted h names n read seen made =
    (new ends : List (List ℕ)) × (numbers : List ℕ) × IsCall h names read seen new ends
    × AreParts n new (map (λ v. v.items) made.parts.items)
    × AreOrigins h read n new (map (λ v. v.items) made.origins.items)
    × ArePaired (EndsWith h names read) numbers ends
    × (string_bytes made.text ≡ end_lines ends numbers ++ counts_line (length read) (length new))

-- what a call comes to
abbrev pub IfParted : Called → (Parted → Type 0) → Type 0
IfParted (called.Parted made) P = P made
IfParted (called.NoState number) P = Unit {0}

abbrev pub IfNoState : Called → (ℕ → Type 0) → Type 0
IfNoState (called.Parted made) P = Unit {0}
IfNoState (called.NoState number) P = P number

-- what has this number among them is no state
abbrev pub NoneIsAt : Host → List (List ℕ) → ℕ → Type 0
NoneIsAt h read number = (bytes : List ℕ) × (slice_get read number ≡ Some bytes) × IsNoState h bytes
