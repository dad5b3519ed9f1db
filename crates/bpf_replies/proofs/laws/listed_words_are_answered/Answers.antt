use Rattle.bpf_replies.proofs.ListedAgain.{words_answered}
use Rattle.bpf_replies.proofs.laws.listed_words_are_answered.Goals as goal

pub returns : goal.returns
returns c = words_answered c.texts_are_determined.ensures c.encodings_are_determined.ensures c.program_lines_assemble_to_their_words.ensures
