-- Cutting and joining seats, and the seat that knows the whole history.
use Rattle.std.specs.Prelude.{◌≡◌, ℕ, ◌<◌, ◌≤◌, List, [], map}
use mathlib.Core.List.{IsPrefix}
use mathlib.Core.Option.{some}
use lib.ListN.{get_elem?}
use Rattle.bpf_shared.specs.declared.events.Entry.{Entry}
use Rattle.bpf_shared.specs.History.{IsLegal, events_of}
use Rattle.hop_layout.specs.declared.about.About.{About}
use Rattle.hop_words.specs.declared.known.Known.{Known}
use Rattle.hop_words.specs.declared.known.View.{View}
use Rattle.hop_layout.specs.Layout.{mem}
use Rattle.hop_words.specs.Content.{IsShare}
use Rattle.hop_words.specs.Ghost.{Ghost, shape_at}
use Rattle.hop_words.specs.Rule.{Rule, image}
use Rattle.hop_words.specs.Depths.{IsBorn, home_by}

abbrev pub view : List Known → List Entry → View
view lanes kept = record { lanes = lanes; kept = kept }

-- the lane has seen a beginning of the history, with all its own events
abbrev pub HasSeenBeginning : Known → List Entry → Type 0
HasSeenBeginning l log = IsPrefix l.seen log × (events_of l.cpu l.seen ≡ events_of l.cpu log)

-- what is kept is the whole history, and the words keep the rule with it
pub record KeepsWholeHistory (a : About) (v : View) (ws : List ℕ) : Type 0 where
  pub ghost : Ghost
  pub whole : v.kept ≡ ghost.log
  pub rule : Rule a (mem a.shape ws) ghost
  -- no lane has an element in hand
  pub empty : (c : ℕ) → c < a.shape.cpus → ghost.lanes.fresh c ≡ []
  -- where no lane has a lock, each born segment's words are at rest, and show its share of the last
  -- store's keys
  pub shows : (m s : ℕ) → IsBorn a ghost.depths m s
      → IsShare a.seed (shape_at a m) (home_by a m (ghost.depths m s)) (image a ws) m s
      (ghost.linked m)

-- the lane has seen all of this history, and knows all else as before
abbrev pub with_seen : List Entry → Known → Known
with_seen log l = record l { seen = log }

-- where these are lanes of all CPUs: each of them has now seen the whole history, which is legal, and
-- of which it had seen a beginning with all its own events. No other CPU has any
pub record AreSettled (a : About) (lanes settled : List Known) : Type 0 where
  pub log : List Entry
  pub legal : IsLegal a.shape log
  pub begins : (k : ℕ) (l : Known) → get_elem? lanes k ≡ some l → HasSeenBeginning l log
  pub others : (c : ℕ) → a.shape.cpus ≤ c → events_of c log ≡ []
  pub after : settled ≡ map (with_seen log) lanes
