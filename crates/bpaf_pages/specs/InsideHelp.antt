-- What the texts that a program gives are in contracts.
use Rattle.std.specs.Prelude.{option_copied}
use Rattle.bpaf_pages.specs.{declared.help.HelpTexts.HelpTexts, Help.PageTexts}

-- the texts, each lent where there is one
abbrev pub given_by : HelpTexts → PageTexts
given_by texts = record {
  usage = option_copied texts.usage;
  descr = option_copied texts.descr;
  header = option_copied texts.header;
  footer = option_copied texts.footer;
}
