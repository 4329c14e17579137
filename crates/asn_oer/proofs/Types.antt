-- Each kind of type in OER as a language.
pub mod SimpleLanguages
pub mod IntegerLanguages
pub mod ItemLanguages
pub mod BitLanguages
pub mod StringLanguages
pub mod FilledLanguages
pub mod ListLanguages
pub mod OpenTypes
pub mod ChoiceLanguages
pub mod TagLanguages
pub mod ComponentLanguages
pub mod AdditionLanguages
pub mod SequenceLanguages
pub mod LeftOut
