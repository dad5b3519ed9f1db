-- The store that tests and the bench call.
use Rattle.std.specs.Prelude.{◌≡◌, ◌%◌, ◌<◌, length}
use Rattle.hop_layout.specs.declared.about.About.{About}
use Rattle.hop_words.specs.Ghost.{shape_at}

-- the first map's keys and values have eight bytes each, and no run was counted when the store was
-- made
pub record IsTrial (a : About) : Type 0 where
  pub map : 0 < length a.shape.maps
  pub key : (shape_at a 0).key ≡ 8
  pub value : (shape_at a 0).value ≡ 8
  pub even : a.count % 2 ≡ 0
