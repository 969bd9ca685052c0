pub mod RuleWords
