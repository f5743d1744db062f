-- What the words of a command line ask for.
use Rattle.std.specs.Prelude.{◌≡◌, ℕ, ◌≤◌, List, [], ◌∷◌, codes}
use Rattle.std.specs.Str.Parse.{IsNumeral, digits_value, without_leading_plus}
use Rattle.workload_program.specs.declared.shape.Shape.{Shape}
use Rattle.workload_program.specs.declared.shape.Shape.TheVariants.{SkipListTest, Points}
use Rattle.workload_program.specs.declared.plan.Plan.{Plan}
use Rattle.workload_program.specs.declared.plan.TheConstants.{MAX_BATCHES, MAX_TRANSACTIONS}

-- the word of a shape
abbrev pub name_of : Shape → List ℕ
name_of SkipListTest = codes "skiplisttest"
name_of Points = codes "points"

-- the text is a decimal number, before which a plus may stand, from 1 up to the greatest
pub record IsNumberTo (greatest : ℕ) (text : List ℕ) (number : ℕ) : Type 0 where
  pub numeral : IsNumeral 10 (without_leading_plus text)
  pub value : number ≡ digits_value 10 (without_leading_plus text)
  pub least : 1 ≤ number
  pub most : number ≤ greatest

-- the words are the name of the program, that of the shape, and the two numbers
pub record AskFor (plan : Plan) (line : List (List ℕ)) : Type 0 where
  pub program : List ℕ
  pub batches : List ℕ
  pub transactions : List ℕ
  pub words : line ≡ program ∷ name_of plan.shape ∷ batches ∷ transactions ∷ []
  pub batch_count : IsNumberTo MAX_BATCHES batches plan.batches
  pub txn_count : IsNumberTo MAX_TRANSACTIONS transactions plan.transactions

-- what is printed where no words are given
abbrev pub usage_lines : List ℕ
usage_lines =
    codes "usage: workload SHAPE BATCHES TRANSACTIONS\nWrites the frames of one chain of batches to standard output. The same words give the same bytes.\n  SHAPE         skiplisttest or points\n  BATCHES       1 to 65536\n  TRANSACTIONS  1 to 2500, in each batch\n"
