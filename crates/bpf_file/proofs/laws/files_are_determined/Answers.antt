use Rattle.bpf_file.proofs.OneFile.{files_are_determined as law}
use Rattle.bpf_file.proofs.laws.files_are_determined.Goals as goal

pub returns : goal.returns
returns c =
    law c.words_are_determined.ensures c.refusals_are_determined.ensures
    c.first_is_determined.ensures c.named_texts_are_determined.ensures
