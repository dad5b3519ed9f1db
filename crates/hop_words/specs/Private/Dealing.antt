-- What the lanes that aren't dealt yet are made of.
use Rattle.std.specs.Prelude.{◌≡◌, ℕ, ◌+◌, ◌≤◌, List, [], ◌∷◌, length}
use Rattle.hop_words.specs.declared.known.Known.{Known}
use Rattle.hop_words.specs.declared.dealing.Lanes.TheInside.{Inside}
use Rattle.hop_words.specs.Seats.{view}
use Rattle.hop_words.specs.Dealing.{Dealing}

abbrev pub dealing : Inside → Dealing
dealing s = record { table = s.seat.table_id; lanes = s.seat.me.0.lanes }

-- the CPUs have the numbers from this one on, and noted nothing yet
abbrev pub AreNumbered : ℕ → List Known → Type 0
AreNumbered c [] = Unit {0}
AreNumbered c (l ∷ ls) = (l.cpu ≡ c) × (l.tally ≡ []) × AreNumbered (c + 1) ls

abbrev pub IsDealing : Inside → Type 0
IsDealing s = (s.seat.me ≡ (view s.seat.me.0.lanes [], [])) × (length s.seat.me.0.lanes ≡ s.left)
    × AreNumbered s.next s.seat.me.0.lanes × (s.next + s.left ≤ 16)
