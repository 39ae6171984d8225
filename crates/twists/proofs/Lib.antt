mod Twisted
