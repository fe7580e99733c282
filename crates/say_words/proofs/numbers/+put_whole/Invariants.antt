-- The number falls from a call to the next.
use Rattle.say_words.proofs.numbers.+put_whole.Given as goal

abbrev pub decreases-put_whole : goal.decreases-put_whole
decreases-put_whole l = l.n
