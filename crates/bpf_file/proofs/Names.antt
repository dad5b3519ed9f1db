-- Names are ASCII, so they are text.
use Rattle.std.proofs.Common.{◌≡◌, ℕ, ◌<◌, zero, suc, Bool, true, false, ◌&&◌, List, [], ◌∷◌, ◌++◌, refl, arith}
use Rattle.std.proofs.lemmas.Bool.Decides.{nat_tests}
use Rattle.std.specs.Prelude.{IsUtf8, IsAscii, slice_index}
use Rattle.std.specs.List.{list_all}
use Rattle.std.proofs.lemmas.Str.{IsUtf8-from_ascii}
use Rattle.std.proofs.lemmas.Str.Ascii.{IsAscii-nil}
use Rattle.bpf_lines.specs.Words.{is_word_byte, is_word, is_name}
use Rattle.bpf_file.specs.declared.form.Part.{Part}
use Rattle.bpf_file.specs.declared.form.Part.TheVariants.{Word, Name, Number, Words}
use Rattle.bpf_file.specs.declared.key.Key.TheVariants as key
use Rattle.bpf_file.specs.Form.{is_part, has_form, field_at, map_form, masked_map_form, growing_map_form, growing_masked_map_form}
use Rattle.bpf_file.specs.Form.{array_form, per_cpu_form, frozen_form, data_form, variable_form, put_form}

pub and_both : (a b : Bool) → (a && b) ≡ true → (a ≡ true) × (b ≡ true)
and_both true b e = (refl, e)
and_both false b e = cc

small : (b : ℕ) → is_word_byte b ≡ true → b < 128
small b e = grind (arith, nat_tests)

ascii_at : (b : ℕ) (bs : List ℕ) → b < 128 → IsAscii bs → (i : ℕ) → slice_index (b ∷ bs) i < 128
ascii_at b bs s f zero = s
ascii_at b bs s f (suc i) = f i

ascii : (w : List ℕ) → list_all is_word_byte w ≡ true → IsAscii w
ascii [] e = IsAscii-nil
ascii (b ∷ bs) e =
    let both = and_both (is_word_byte b) (list_all is_word_byte bs) e in
    ascii_at b bs (small b both.0) (ascii bs both.1)

pub name_is_text : (w : List ℕ) → is_name w ≡ true → IsUtf8 w
name_is_text w e =
    let word = and_both (is_word w) _ e in
    let bytes = and_both _ (list_all is_word_byte w) word.0 in
    IsUtf8-from_ascii w (ascii w bytes.1)

impossible : (w : List ℕ) → false ≡ true → IsUtf8 (field_at (w ∷ []) 1)
impossible w e = cc

-- the second field of a form that has a name there
named_field : (p : Part) (ps : List Part) (fs : List (List ℕ)) → has_form (p ∷ Name ∷ ps) fs ≡ true → IsUtf8 (field_at fs 1)
named_field p ps [] e = cc
named_field p ps (f ∷ []) e = let rest = and_both (is_part p f) false e in impossible f rest.1
named_field p ps (f ∷ g ∷ fs) e =
    let rest = and_both (is_part p f) (is_part Name g && has_form ps fs) e in
    let name = and_both (is_part Name g) (has_form ps fs) rest.1 in
    let word = and_both (is_name g) _ name.0 in
    name_is_text g word.0

-- the third, after two names
second_field : (p q : Part) (ps : List Part) (fs : List (List ℕ)) → has_form (p ∷ q ∷ Name ∷ ps) fs ≡ true → IsUtf8 (field_at fs 2)
second_field p q ps [] e = cc
second_field p q ps (f ∷ fs) e =
    let rest = and_both (is_part p f) (has_form (q ∷ Name ∷ ps) fs) e in
    named_field q ps fs rest.1

-- after a map's name
abbrev sizes : List Part
sizes =
    Word key.KeySize ∷ Number ∷ Word key.ValueSize ∷ Number ∷ Word key.Max ∷ Number
    ∷ Word key.Spare ∷ Number ∷ []

pub map_named : (fs : List (List ℕ)) → has_form map_form fs ≡ true → IsUtf8 (field_at fs 1)
map_named fs e = named_field (Word key.Map) sizes fs e

pub masked_map_named : (fs : List (List ℕ)) → has_form masked_map_form fs ≡ true → IsUtf8 (field_at fs 1)
masked_map_named fs e = named_field (Word key.Map) (sizes ++ Word key.Mask ∷ Number ∷ []) fs e

pub growing_map_named : (fs : List (List ℕ)) → has_form growing_map_form fs ≡ true → IsUtf8 (field_at fs 1)
growing_map_named fs e = named_field (Word key.Map) (sizes ++ Word key.Grow ∷ []) fs e

pub growing_masked_map_named : (fs : List (List ℕ)) → has_form growing_masked_map_form fs ≡ true → IsUtf8 (field_at fs 1)
growing_masked_map_named fs e = named_field (Word key.Map) (sizes ++ Word key.Mask ∷ Number ∷ Word key.Grow ∷ []) fs e

-- after an array's name
abbrev array_sizes : List Part
array_sizes = Word key.ValueSize ∷ Number ∷ Word key.Max ∷ Number ∷ []

pub array_named : (fs : List (List ℕ)) → has_form array_form fs ≡ true → IsUtf8 (field_at fs 1)
array_named fs e = named_field (Word key.Array) array_sizes fs e

pub per_cpu_named : (fs : List (List ℕ)) → has_form (array_form ++ per_cpu_form) fs ≡ true → IsUtf8 (field_at fs 1)
per_cpu_named fs e = named_field (Word key.Array) (array_sizes ++ Word key.PerCpu ∷ []) fs e

pub frozen_named : (fs : List (List ℕ)) → has_form (array_form ++ frozen_form) fs ≡ true → IsUtf8 (field_at fs 1)
frozen_named fs e = named_field (Word key.Array) (array_sizes ++ Word key.Frozen ∷ []) fs e

pub frozen_per_cpu_named : (fs : List (List ℕ)) → has_form (array_form ++ per_cpu_form ++ frozen_form) fs ≡ true → IsUtf8 (field_at fs 1)
frozen_per_cpu_named fs e = named_field (Word key.Array) (array_sizes ++ Word key.PerCpu ∷ Word key.Frozen ∷ []) fs e

pub data_named : (fs : List (List ℕ)) → has_form data_form fs ≡ true → IsUtf8 (field_at fs 1)
data_named fs e = named_field (Word key.Data) (Number ∷ Words ∷ []) fs e

pub variable_named : (fs : List (List ℕ)) → has_form variable_form fs ≡ true → IsUtf8 (field_at fs 1)
variable_named fs e = named_field (Word key.Variable) (Name ∷ Number ∷ Number ∷ []) fs e

pub array_of_named : (fs : List (List ℕ)) → has_form variable_form fs ≡ true → IsUtf8 (field_at fs 2)
array_of_named fs e = second_field (Word key.Variable) Name (Number ∷ Number ∷ []) fs e

pub put_named : (fs : List (List ℕ)) → has_form put_form fs ≡ true → IsUtf8 (field_at fs 1)
put_named fs e = named_field (Word key.Put) (Words ∷ Words ∷ []) fs e

pub part_is_text : (w : List ℕ) → is_part Name w ≡ true → IsUtf8 w
part_is_text w e = name_is_text w (and_both (is_name w) _ e).0
