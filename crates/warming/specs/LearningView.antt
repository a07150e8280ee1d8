-- The fields of a learner as what it has learnt.
use Rattle.warming.specs.declared.learning.Learner.TheInside.{Inside}
use Rattle.warming.specs.Learning.{Learnt}

abbrev pub learnt_in : Inside → Learnt
learnt_in fields = record { places = fields.places; images = fields.predictors.items }
