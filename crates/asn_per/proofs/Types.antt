-- Each kind of type in PER as a language.
pub mod BooleanAndNull
pub mod BooleanLanguage
pub mod IntegerLanguages
pub mod MarkedIntegers
pub mod SmallNumbers
pub mod Ranks
pub mod EnumeratedLanguages
pub mod SizedLists
pub mod StringLanguages
pub mod ListLanguages
pub mod OpenFieldLanguages
pub mod ChoiceLanguages
pub mod AdditionLanguages
pub mod SequenceLanguage
pub mod PlainSequences
pub mod MarkedSequences
pub mod LeftOut
