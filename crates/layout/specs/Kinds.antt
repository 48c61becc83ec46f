-- Kinds, marks and expressions by name, and by the numbers that the definitions have.
use Rattle.std.specs.Prelude.{ℕ, zero, suc}
use Rattle.layout.specs.declared.kind.Kind.{Kind}
use Rattle.layout.specs.declared.kind.Kind.TheVariants as kinds
use Rattle.layout.specs.declared.mark.Mark.{Mark}
use Rattle.layout.specs.declared.mark.Mark.TheVariants as marks
use Rattle.layout.specs.declared.tag.Tag.{Tag}
use Rattle.layout.specs.declared.tag.Tag.TheVariants as tags

-- the kind with a number; the number of a kind, 19 of none
abbrev pub kind_named : ℕ → Kind
kind_named zero = kinds.Nil
kind_named (suc zero) = kinds.Assign
kind_named (suc (suc zero)) = kinds.Seq
kind_named (suc (suc (suc zero))) = kinds.Par
kind_named (suc (suc (suc (suc zero)))) = kinds.If
kind_named (suc (suc (suc (suc (suc zero))))) = kinds.While
kind_named (suc (suc (suc (suc (suc (suc zero)))))) = kinds.Choice
kind_named (suc (suc (suc (suc (suc (suc (suc zero))))))) = kinds.OneWay
kind_named (suc (suc (suc (suc (suc (suc (suc (suc zero)))))))) = kinds.Request
kind_named (suc (suc (suc (suc (suc (suc (suc (suc (suc zero))))))))) = kinds.Notify
kind_named (suc (suc (suc (suc (suc (suc (suc (suc (suc (suc zero)))))))))) = kinds.Solicit
kind_named (suc (suc (suc (suc (suc (suc (suc (suc (suc (suc (suc zero))))))))))) = kinds.Scope
kind_named (suc (suc (suc (suc (suc (suc (suc (suc (suc (suc (suc (suc zero)))))))))))) = kinds.Inst
kind_named (suc (suc (suc (suc (suc (suc (suc (suc (suc (suc (suc (suc (suc zero))))))))))))) = kinds.Throw
kind_named (suc (suc (suc (suc (suc (suc (suc (suc (suc (suc (suc (suc (suc (suc zero)))))))))))))) = kinds.Comp
kind_named (suc (suc (suc (suc (suc (suc (suc (suc (suc (suc (suc (suc (suc (suc (suc zero))))))))))))))) = kinds.Ch
kind_named (suc (suc (suc (suc (suc (suc (suc (suc (suc (suc (suc (suc (suc (suc (suc (suc zero)))))))))))))))) = kinds.Executor
kind_named (suc (suc (suc (suc (suc (suc (suc (suc (suc (suc (suc (suc (suc (suc (suc (suc (suc zero))))))))))))))))) = kinds.Waiter
kind_named (suc (suc (suc (suc (suc (suc (suc (suc (suc (suc (suc (suc (suc (suc (suc (suc (suc (suc zero)))))))))))))))))) = kinds.Notice
kind_named _ = kinds.Unused

abbrev pub number_of : Kind → ℕ
number_of kinds.Nil = 0
number_of kinds.Assign = 1
number_of kinds.Seq = 2
number_of kinds.Par = 3
number_of kinds.If = 4
number_of kinds.While = 5
number_of kinds.Choice = 6
number_of kinds.OneWay = 7
number_of kinds.Request = 8
number_of kinds.Notify = 9
number_of kinds.Solicit = 10
number_of kinds.Scope = 11
number_of kinds.Inst = 12
number_of kinds.Throw = 13
number_of kinds.Comp = 14
number_of kinds.Ch = 15
number_of kinds.Executor = 16
number_of kinds.Waiter = 17
number_of kinds.Notice = 18
number_of kinds.Unused = 19

-- all numbers that no kind has count as one
abbrev pub counted_as : ℕ → ℕ
counted_as k = number_of (kind_named k)

-- the mark with a number, and its number
abbrev pub mark_named : ℕ → Mark
mark_named zero = marks.Unmarked
mark_named (suc zero) = marks.Faulted
mark_named (suc (suc zero)) = marks.OwnName
mark_named _ = marks.Unused

abbrev pub mark_number : Mark → ℕ
mark_number marks.Unmarked = 0
mark_number marks.Faulted = 1
mark_number marks.OwnName = 2
mark_number marks.Unused = 3

-- what an expression with a number is
abbrev pub tag_named : ℕ → Tag
tag_named zero = tags.Constant
tag_named (suc zero) = tags.Variable
tag_named (suc (suc zero)) = tags.Sum
tag_named (suc (suc (suc zero))) = tags.Difference
tag_named (suc (suc (suc (suc zero)))) = tags.Less
tag_named (suc (suc (suc (suc (suc zero))))) = tags.Equal
tag_named (suc (suc (suc (suc (suc (suc zero)))))) = tags.DecimalSum
tag_named _ = tags.DecimalDifference

abbrev pub tag_number : Tag → ℕ
tag_number tags.Constant = 0
tag_number tags.Variable = 1
tag_number tags.Sum = 2
tag_number tags.Difference = 3
tag_number tags.Less = 4
tag_number tags.Equal = 5
tag_number tags.DecimalSum = 6
tag_number tags.DecimalDifference = 7
