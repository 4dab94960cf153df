-- What a page is to hold, by what it is asked.
use Rattle.receipts.specs.Pages.{PageRule}
use Rattle.list_page.specs.declared.page_ask.PageAsk.{PageAsk}

-- the rule of a page that is asked for
abbrev pub rule_of : PageAsk → PageRule
rule_of ask = record {
  prefix = ask.prefix;
  delimiter = ask.delimiter;
  most = ask.most;
  versions = ask.versions;
  key_after = ask.key_after;
  id_after = ask.id_after;
  name_after = ask.name_after;
}
