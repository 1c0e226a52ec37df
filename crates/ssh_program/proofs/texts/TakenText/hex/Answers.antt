use Rattle.ssh_program.proofs.texts.TakenText.hex.Goals as goal

pub returns-in-Word : goal.returns-in-Word
returns-in-Word c = rw c.in-Word.is (rw c.as_bytes.ensures.value at c.hex.ensures.value)

pub returns-in-Line : goal.returns-in-Line
returns-in-Line c = rw c.in-Line.is (rw (c.text_on.ensures, c.deref.ensures.value) at c.hex-in-Line.ensures.value)
