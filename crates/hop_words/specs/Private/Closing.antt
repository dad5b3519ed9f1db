-- What the end of a store is made of.
use Rattle.std.specs.Prelude.{◌≡◌, ℕ, List, []}
use Rattle.std.specs.Mem.Slots.{slots_items, slots_len, IsFull}
use Rattle.atomic_table.specs.Table.{Step}
use Rattle.hop_words.specs.declared.closing.Returned.TheInside.{Inside as InReturned}
use Rattle.hop_words.specs.declared.closing.Rest.TheInside.{Inside as InRest}
use Rattle.hop_layout.specs.Layout.{size}
use Rattle.hop_words.specs.declared.known.Known.{Known}
use Rattle.hop_words.specs.Dealing.{Dealing}
use Rattle.hop_words.specs.Private.Seats.{Sat, empty_view, Learned}
use Rattle.hop_words.specs.Seats.{view, KeepsWholeHistory}
use Rattle.hop_words.specs.Closing.{Ending}

-- what a new seat and a seat that learns are given
abbrev pub came : Step (Unit {0}) → Sat → ℕ → Sat → Type 0
came st m n m' = m'.0 ≡ empty_view

abbrev pub learned : Step (Unit {0}) → Sat → ℕ → Sat → Type 0
learned st m n m' = Learned m m'

-- and one whose CPUs have all seen the whole history
abbrev pub settled : (List Known → List Known → Type 0) → Step (Unit {0}) → Sat → ℕ → Sat → Type 0
settled told st m n m' =
    (m' ≡ (view m'.0.lanes m.0.kept, m.1)) × told m.0.lanes m'.0.lanes

abbrev pub returned : InReturned → Dealing
returned s = record { table = s.seat.table_id; lanes = s.seat.me.0.lanes }

-- the seat keeps no history yet, and has no slot
abbrev pub IsReturned : InReturned → Type 0
IsReturned s = s.seat.me ≡ (view s.seat.me.0.lanes [], [])

abbrev pub ending : InRest → Ending
ending s = record {
  about = s.index;
  words = slots_items s.words.words;
  history = s.keeper.me.0.kept;
}

-- the words are all there, and keep the rule with the history
abbrev pub IsAtRest : InRest → Type 0
IsAtRest s = IsFull s.words.words × (slots_len s.words.words ≡ size s.index.shape)
    × (slots_len s.words.slots ≡ 0)
    × KeepsWholeHistory s.index (view [] s.keeper.me.0.kept) (slots_items s.words.words)
