-- What the steps on words of values ask of what a CPU knows, and where they are.
use Rattle.std.specs.Prelude.{ℕ}
use Rattle.bpf_shared.specs.Access.{bytes_in}
use Rattle.hop_layout.specs.declared.about.About.{About}
use Rattle.hop_words.specs.declared.known.Known.{Known}
use Rattle.hop_words.specs.declared.touching.ValuePart.{ValuePart}
use Rattle.hop_words.specs.declared.fixed.FixedPart.{FixedPart}
use Rattle.hop_words.specs.Kinds.{TouchesHeldValue, value_address, TouchesFixedValue, ChangesFixedValue, fixed_address, number_in_word}

-- the CPU holds the value that the bytes are of
abbrev pub TouchesPart : About → Known → ValuePart → Type 0
TouchesPart a l p = TouchesHeldValue a l p.map p.element p.word p.offset (bytes_in p.size)

-- they are a whole word
abbrev pub TouchesWord : About → Known → ValuePart → Type 0
TouchesWord a l p = TouchesHeldValue a l p.map p.element p.word p.offset 8

-- the address of the first byte
abbrev pub part_address : About → ValuePart → ℕ
part_address a p = value_address a p.map p.element p.word p.offset

-- the number that the bytes read as, where the word is this one
abbrev pub found_part : ValuePart → ℕ → ℕ
found_part p n = number_in_word n p.offset (bytes_in p.size)

-- ---- fixed values
-- the bytes are of one
abbrev pub TouchesFixed : About → Known → FixedPart → Type 0
TouchesFixed a l p = TouchesFixedValue a l p.array p.word p.offset (bytes_in p.size)

-- and may be written
abbrev pub ChangesFixed : About → Known → FixedPart → Type 0
ChangesFixed a l p = ChangesFixedValue a l p.array p.word p.offset (bytes_in p.size)

-- they are a whole word that may be written
abbrev pub ChangesFixedWord : About → Known → FixedPart → Type 0
ChangesFixedWord a l p = ChangesFixedValue a l p.array p.word p.offset 8

-- the address of the first byte
abbrev pub fixed_part_address : FixedPart → ℕ
fixed_part_address p = fixed_address p.array p.word p.offset

-- the number that the bytes read as, where the word is this one
abbrev pub found_fixed : FixedPart → ℕ → ℕ
found_fixed p n = number_in_word n p.offset (bytes_in p.size)
