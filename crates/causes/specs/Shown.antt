-- How a cause is written: `cause`, its number and its values, with single spaces between them.
use Rattle.std.specs.Prelude.{ℕ, List, [], ◌++◌, codes, decimal}
use Rattle.causes.specs.declared.Cause.{Cause}
use Rattle.causes.specs.declared.Values.{Values}
use Rattle.causes.specs.declared.Values.TheVariants.{None, One, Two}

abbrev pub values_shown : Values → List ℕ
values_shown None = []
values_shown (One a) = codes " " ++ decimal a
values_shown (Two a b) = codes " " ++ (decimal a ++ (codes " " ++ decimal b))

abbrev pub cause_shown : Cause → List ℕ
cause_shown c = codes "cause " ++ (decimal c.number ++ values_shown c.values)
