-- What contracts see of a table and of a CPU's right to step.
use Rattle.std.specs.Prelude.{[]}
use Rattle.atomic_table.specs.Seated.{TableId}
use Rattle.hop_layout.specs.declared.about.About.{About}
use Rattle.hop_words.specs.declared.known.Known.{Known}

pub record Shown : Type 0 where
  pub id : TableId
  pub about : About

pub record Standing : Type 0 where
  pub table : TableId
  pub known : Known

abbrev pub nobody : Known
nobody = record {
  cpu = 0;
  seen = [];
  fresh = [];
  limbo = [];
  locks = [];
  readings = [];
  tally = [];
}
