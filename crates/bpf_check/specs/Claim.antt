-- What is claimed of an outcome: that it has a line, or a line with such a number. Our own choice.
use Rattle.std.specs.Prelude.{ℕ, ◌+◌, ◌*◌, ◌^◌, ◌==◌, ◌&&◌, Bool, false, not, List, [], ◌∷◌, Option, Some, None, codes, drop, if◌then◌else◌}
use Rattle.std.specs.Prelude.{length, nat_eq, nat_le, nat_lt, take}
use Rattle.std.specs.List.{after_first, list_all, list_any, starts_with}
use Rattle.std.specs.Str.{bytes_eq}
use Rattle.std.specs.Str.Parse.{digits_value}
use Rattle.bpf_lines.specs.Lines.{lines_of}
use Rattle.bpf_shared.specs.Access.{bytes_in}
use Rattle.bpf_check.specs.Subjects.{number_in}
use Rattle.bpf_check.specs.declared.claim.Comparison.{Comparison}
use Rattle.bpf_check.specs.declared.claim.Field.{Field}
use Rattle.bpf_check.specs.declared.claim.Join.{Join}
use Rattle.bpf_check.specs.declared.claim.Join.TheVariants as join
use Rattle.bpf_check.specs.declared.claim.Kind.{Kind}
use Rattle.bpf_check.specs.declared.claim.Kind.TheVariants as kind
use Rattle.bpf_check.specs.declared.claim.Relation.{Relation}
use Rattle.bpf_check.specs.declared.claim.Relation.TheVariants as relation

-- ---- numbers

abbrev pub holds : Relation → ℕ → ℕ → Bool
holds relation.Equal a b = a == b
holds relation.Unequal a b = not (a == b)
holds relation.Below a b = nat_lt a b
holds relation.AtMost a b = nat_le a b
holds relation.Above a b = nat_lt b a
holds relation.AtLeast a b = nat_le b a

-- there is a number, and it compares so
abbrev pub compares : Comparison → Option ℕ → Bool
compares c None = false
compares c (Some n) = holds c.relation n c.number

-- the number whose bytes these are in hex, the lowest first
abbrev pub low_first : List ℕ → ℕ
low_first [] = 0
low_first (high ∷ []) = 0
low_first (high ∷ low ∷ more) = low_first more * 256 + digits_value 16 (high ∷ low ∷ [])

-- if 64 bits hold it
abbrev pub in_64_bits : ℕ → Option ℕ
in_64_bits n = if nat_lt n (2 ^ 64) then Some n else None

-- the number of a size at an offset in a value whose bytes these are in hex
abbrev pub field_of : Field → List ℕ → Option ℕ
field_of f digits = if nat_le (2 * f.offset + 2 * bytes_in f.size) (length digits)
    then in_64_bits (low_first (take (2 * bytes_in f.size) (drop (2 * f.offset) digits))) else None

-- ---- parts of a claim

-- that an outcome has a line of this kind, which is these bytes or begins with them
pub record Part : Type 0 where
  pub kind : Kind
  pub bytes : List ℕ

abbrev pub is_space : ℕ → Bool
is_space b = b == 32

-- what is after a line's first four words
abbrev pub after_four : List ℕ → List ℕ
after_four line =
    after_first is_space (after_first is_space (after_first is_space (after_first is_space line)))

-- `job J cpu C fault ..`
abbrev pub is_fault_line : List ℕ → Bool
is_fault_line line =
    starts_with nat_eq line (codes "job ") && starts_with nat_eq (after_four line) (codes "fault ")

-- the line is: these bytes; they and a number, or they and a value with a number in it, that compares
-- so; that of a job that ended in a fault
abbrev pub is_line_of : Kind → (bytes line : List ℕ) → Bool
is_line_of kind.Line bytes line = bytes_eq line bytes
is_line_of (kind.Result c) bytes line =
    starts_with nat_eq line bytes && compares c (number_in (drop (length bytes) line))
is_line_of (kind.Field f c) bytes line =
    starts_with nat_eq line bytes && compares c (field_of f (drop (length bytes) line))
is_line_of kind.Fault bytes line = is_fault_line line

-- some line of the text is
abbrev pub has_part : Part → List ℕ → Bool
has_part p text = list_any (is_line_of p.kind p.bytes) (lines_of text)

-- ---- a claim

-- each of its parts, or one of them
abbrev pub joined : Join → (Part → Bool) → List Part → Bool
joined join.All has parts = list_all has parts
joined join.Any has parts = list_any has parts
