-- How an answer is printed: its number, type, place and line, with a space between.
use Rattle.std.specs.Prelude.{ℕ, List, ◌++◌, codes, decimal}
use Rattle.answer.specs.declared.Answer.{Answer}
use Rattle.answer.specs.Number.{number_of, type_of, place_of, line_of}

abbrev pub numbers_text : Answer → List ℕ
numbers_text a = decimal (number_of a) ++ codes " " ++ decimal (type_of a) ++ codes " " ++ decimal (place_of a)
    ++ codes " " ++ decimal (line_of a)
