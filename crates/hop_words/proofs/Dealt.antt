-- The lanes as made, and dealing one.
use Rattle.std.proofs.Common.{◌≡◌, ◌≢◌, ℕ, zero, suc, ◌+◌, ◌<◌, List, [], ◌∷◌, length, refl, ap, arith}
use Rattle.atomic_table.specs.Table.{Splits}
use Rattle.bpf_shared.specs.Shape.{Shape, IsShape}
use Rattle.hop_layout.specs.declared.about.About.{About}
use Rattle.hop_words.specs.declared.known.Known.{Known}
use Rattle.hop_layout.specs.Layout.{size}
use Rattle.hop_words.specs.Rule.{Kept}
use Rattle.hop_words.specs.Opens.{lanes_from}
use Rattle.hop_words.specs.Seats.{view}
use Rattle.hop_words.specs.Private.Seats.{dealer, dealt}
use Rattle.hop_words.specs.Private.Dealing.{AreNumbered}
use Rattle.hop_words.proofs.Gathers.{deals}
use Rattle.hop_layout.proofs.Indexes.{sum_same}

pub lane_count : (a : About) (c n : ℕ) → length (lanes_from a c n) ≡ n
lane_count a c zero = refl
lane_count a c (suc n) = ap suc (lane_count a (c + 1) n)

pub numbered : (a : About) (c n : ℕ) → AreNumbered c (lanes_from a c n)
numbered a c zero = tt
numbered a c (suc n) = (refl, refl, numbered a (c + 1) n)

pub deals_first : (a : About) (id : ℕ) (ls : List Known) → length ls ≢ 0 → Splits (Kept a) id (view ls []) (dealer (view ls [])) (dealt (view ls []))
deals_first a id [] some = absurd (some refl)
deals_first a id (l ∷ ls) some = deals a id l ls []

pub some_words : (h : Shape) → IsShape h → 0 < size h
some_words h is = let z = sum_same h.cpus 8 in let c = is.cpus.0 in omega arith
