-- The lanes that aren't dealt yet.
use Rattle.std.specs.Prelude.{List}
use Rattle.atomic_table.specs.Seated.{TableId}
use Rattle.hop_words.specs.declared.known.Known.{Known}

pub record Dealing : Type 0 where
  pub table : TableId
  pub lanes : List Known
